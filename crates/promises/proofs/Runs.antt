-- Runs under any list of calls, from what each call answers.
use Rattle.std.proofs.Common.{◌≡◌, ℕ, Bool, cond, ◌⊎◌, List, [], ◌∷◌, ◌++◌, length, take, drop, Some, None, Ok, Err, Option, Result, sym, refl, ap, ◌∙◌, subst, inl, inr, append_assoc, arith}
use Rattle.std.proofs.lemmas.List.{take_at, append-nil}
use Rattle.std.proofs.lemmas.Bool.{cases_lt, cases_eq, eq-eqb, ne_eqb}
use Rattle.byte_strings.specs.Bytes.{Bytes}
use Rattle.methods.specs.Running.{Residual, Feeds, after}
use Rattle.opening.specs.declared.refusal.Refusal.{Refusal}
use Rattle.reader.specs.declared.output.Mark.{Mark}
use Rattle.reader.specs.declared.output.Output.{Output}
use Rattle.reader.specs.Run.{Standing, Takes, Ends}
use Rattle.promises.specs.Calls.{Action, starting, feeding, closing, Call, Answered, Goes, Continues, StartedBefore, taken, given_out, marked, intake, output, closings, Agrees}

-- From here on a run takes in x, hands out y and answers the marks z.
abbrev Sound : Option Residual → Mark → Bytes → Bytes → List Mark → Type 0
Sound None mark x y z = (x ≡ []) × (y ≡ []) × (z ≡ [])
Sound (Some q) mark x y z =
    ((z ≡ []) × ((t : Residual) × ((r : Bytes) → q.ahead (x ++ r) ≡ after y (t.ahead r)))) ⊎
    ((z ≡ mark ∷ []) × (q.ahead x ≡ Some y))

-- a standing, under the same lists
abbrev Stands : Standing → Bytes → Bytes → List Mark → Type 0
Stands a = Sound a.rest a.mark

pub clash : {T : Type 0} (n : T) (e : Refusal) → ◌≡◌ {A = Result T Refusal} (Ok n) (Err e) → ⊥
clash n e h = let z : ◌≡◌ {A = ℕ} 0 1 = cc in omega arith

after_nil : (o : Option Bytes) → o ≡ after [] o
after_nil None = refl
after_nil (Some v) = refl

after-after : (w y : Bytes) (o : Option Bytes) → after w (after y o) ≡ after (w ++ y) o
after-after w y None = refl
after-after w y (Some v) = ap Some (sym (append_assoc w y v))

-- nothing more is called
idle : (o : Option Residual) (mark : Mark) → Sound o mark [] [] []
idle None mark = (refl, refl, refl)
idle (Some q) mark = inl (refl, (q, λ r. after_nil (q.ahead r)))

-- an accepted feeding, and what comes after it
fed_then : (q t : Residual) (mark : Mark) (p w x y : Bytes) (z : List Mark) → Feeds q p w t → Sound (Some t) mark x y z → Sound (Some q) mark (p ++ x) (w ++ y) z
fed_then q t mark p w x y z feeds (inl (none, (u, ahead))) =
    inl (none, (u, λ r. ap q.ahead (append_assoc p x r) ∙ feeds.split (x ++ r) ∙ ap (after w) (ahead r) ∙ after-after w y (u.ahead r)))
fed_then q t mark p w x y z feeds (inr (one, whole)) = inr (one, feeds.split x ∙ ap (after w) whole)

kept : (a b : Standing) (x y : Bytes) (z : List Mark) → b ≡ a → Stands b x y z → Stands a x y z
kept a b x y z same = subst (λ s. Stands s x y z) same

-- what was handed out stands at the front of the buffer
front : (w rest new : Bytes) (n : ℕ) → n ≡ length w → new ≡ w ++ rest → w ≡ take n new
front w rest new n count is = sym (ap (take n) is ∙ take_at w rest n (sym count))

-- a closing that has the space, and what comes after it
ended : (q : Residual) (mark : Mark) (o : Option Bytes) → q.ahead [] ≡ o → (r : Result Output Refusal) (old new : Bytes) (b : Standing) (x y : Bytes) (z : List Mark) → Ends o (record { rest = Some q; mark = mark }) old r b new → Stands b x y z → Sound (Some q) mark (taken (closing r) ++ x) (given_out (closing r) new ++ y) (marked (closing r) ++ z)
ended q mark None is (Ok o) old new b x y z (r_is, _, _) s = absurd (clash _ _ r_is)
ended q mark None is (Err e) old new b x y z (r_is, same, _) s = kept _ b x y z same s
ended q mark (Some w) is (Err e) old new b x y z (r_is, b-is, New-is) s = absurd (clash _ _ (sym r_is))
ended q mark (Some w) is (Ok o) old new b x y z (r_is, b-is, New-is) s =
    let shut : (x ≡ []) × (y ≡ []) × (z ≡ []) = subst (λ c. Stands c x y z) b-is s in
    let o_is : o ≡ record { mark = mark; count = length w } = cc in
    let w_is : w ≡ take o.count new ++ y = front w (drop (length w) old) new o.count (ap (λ v. v.count) o_is) New-is ∙ sym (append-nil _) ∙ ap (λ v. take o.count new ++ v) (sym shut.1) in
    inr (ap (λ m. m ∷ z) (ap (λ v. v.mark) o_is) ∙ ap (λ v. mark ∷ v) shut.2, ap q.ahead shut.0 ∙ is ∙ ap Some w_is)

-- a feeding that has the space, and what comes after it
took : (q : Residual) (mark : Mark) (p old new : Bytes) (b : Standing) (x y : Bytes) (z : List Mark) (n : ℕ) → Takes q mark p old (Ok n) b new → Stands b x y z → Sound (Some q) mark (p ++ x) (take n new ++ y) z
took q mark p old new b x y z n (t, k, (fed, r_is, b-is)) s =
    let same : k ≡ n = cc in
    subst (λ j. Sound (Some q) mark (p ++ x) (take j new ++ y) z) same (fed_then q t mark p (take k new) x y z fed.feeds (subst (λ c. Stands c x y z) b-is s))

-- a call on the run, and what comes after it
answered : (action : Action) → Continues action → (rest : Option Residual) (mark : Mark) (old new : Bytes) (b : Standing) (x y : Bytes) (z : List Mark) → Answered action (record { rest = rest; mark = mark }) old new b → Stands b x y z → Sound rest mark (taken action ++ x) (given_out action new ++ y) (marked action ++ z)
answered starting never rest mark old new b x y z _ s = absurd never
answered (feeding p (Ok n)) _ None mark old new b x y z (r_is, _, _) s = absurd (clash _ _ r_is)
answered (feeding p (Err e)) _ None mark old new b x y z (r_is, same, _) s = kept _ b x y z same s
answered (feeding p (Ok n)) _ (Some q) mark old new b x y z (short, enough) s =
    elim (cases_lt (length old) (q.hands (length p))) [
      | inl less ↦ absurd (clash _ _ (short less).0)
      | inr more ↦ took q mark p old new b x y z n (enough more) s
    ]
answered (feeding p (Err e)) _ (Some q) mark old new b x y z (short, enough) s =
    elim (cases_lt (length old) (q.hands (length p))) [
      | inl less ↦ kept _ b x y z (short less).1 s
      | inr more ↦ absurd (clash _ _ (sym (enough more).2.1))
    ]
answered (closing (Ok o)) _ None mark old new b x y z (r_is, _, _) s = absurd (clash _ _ r_is)
answered (closing (Err e)) _ None mark old new b x y z (r_is, same, _) s = kept _ b x y z same s
answered (closing (Ok o)) _ (Some q) mark old new b x y z (short, enough) s =
    elim (cases_lt (length old) q.closing) [
      | inl less ↦ absurd (clash _ _ (short less).0)
      | inr more ↦ ended q mark (q.ahead []) refl (Ok o) old new b x y z (enough more) s
    ]
answered (closing (Err e)) _ (Some q) mark old new b x y z (short, enough) s =
    elim (cases_lt (length old) q.closing) [
      | inl less ↦ kept _ b x y z (short less).1 s
      | inr more ↦ ended q mark (q.ahead []) refl (Err e) old new b x y z (enough more) s
    ]

-- what run i does under a list of calls
sound : (i : ℕ) (cs : List Call) (f g : ℕ → Standing) → StartedBefore i cs → Goes f cs g → Stands (f i) (intake i cs) (output i cs) (closings i cs)
sound i [] f g _ goes = idle (f i).rest (f i).mark
sound i (c ∷ cs) f g (continues, before) (h, (answers, others, goes)) =
    let then = sound i cs h g before goes in
    let P : Bool → Type 0 = λ mine. Stands (f i) (cond mine (taken c.action) [] ++ intake i cs) (cond mine (given_out c.action c.after) [] ++ output i cs) (cond mine (marked c.action) [] ++ closings i cs) in
    elim (cases_eq c.run i) [
      | inl same ↦
          subst P (sym (eq-eqb c.run i same))
          (answered c.action (continues same) (f i).rest (f i).mark c.before c.after (h i) _ _ _ (subst (λ k. Answered c.action (f k) c.before c.after (h k)) same answers) then)
      | inr other ↦ subst P (sym (ne_eqb c.run i other)) (kept (f i) (h i) _ _ _ (others i (λ e. other (sym e))) then)
    ]

begun : (y w : Bytes) (o : Option Bytes) → after y o ≡ Some w → (v : Bytes) × (w ≡ y ++ v)
begun y w None e = let z : ◌≡◌ {A = ℕ} 0 1 = cc in absurd (omega arith)
begun y w (Some v) e = (v, cc)

agrees : (q : Residual) (mark : Mark) (i : ℕ) (cs : List Call) → Sound (Some q) mark (intake i cs) (output i cs) (closings i cs) → Agrees q.ahead mark i cs
agrees q mark i cs (inl (none, (t, ahead))) = record {
  begins = λ _ rest w is. begun (output i cs) w (t.ahead rest) (sym (ahead rest) ∙ is);
  ends = λ some. absurd (some none);
}
agrees q mark i cs (inr (one, is)) = record {
  begins = λ none. let z : ◌≡◌ {A = ℕ} 0 1 = cc in absurd (omega arith);
  ends = λ _. (one, is);
}

-- a run with this restoring still to do
pub run_agrees : (q : Residual) (mark : Mark) (f g : ℕ → Standing) (cs : List Call) → Goes f cs g → (i : ℕ) → StartedBefore i cs → f i ≡ record { rest = Some q; mark = mark } → Agrees q.ahead mark i cs
run_agrees q mark f g cs goes i before is =
    agrees q mark i cs (subst (λ b. Stands b (intake i cs) (output i cs) (closings i cs)) is (sound i cs f g before goes))

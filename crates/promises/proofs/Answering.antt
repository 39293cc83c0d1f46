-- What restoring answers where there is space enough.
use Rattle.std.proofs.Common.{◌≡◌, ℕ, Bool, true, false, ◌⊎◌, length, take, drop, Some, None, Ok, Err, Option, Result, sym, refl, ap, ◌∙◌, subst, inl, inr}
use Rattle.std.proofs.lemmas.List.{take_at}
use Rattle.std.proofs.lemmas.Bool.{cases_lt}
use Rattle.byte_strings.specs.Bytes.{Bytes, Octets, Writes}
use Rattle.filters.specs.declared.tag.Tag.{Tag}
use Rattle.filters.specs.Series.{Below}
use Rattle.methods.specs.Identity.{copying}
use Rattle.methods.specs.Running.{Residual, space}
use Rattle.methods.specs.Method.{Scheme, Lawful, Sound}
use Rattle.tagged.specs.Lawful.{tag_lawful}
use Rattle.opening.specs.declared.file.Target.{Target}
use Rattle.opening.specs.declared.file.Target.TheVariants as target
use Rattle.opening.specs.declared.refusal.Refusal.{Refusal}
use Rattle.opening.specs.File.{Opened, tag_for}
use Rattle.opening.specs.Laws.{Narrower}
use Rattle.reader.specs.declared.object.Object.{Object}
use Rattle.reader.specs.declared.output.Mark.{Mark}
use Rattle.reader.specs.declared.output.Mark.TheVariants as mark
use Rattle.reader.specs.declared.output.Output.{Output}
use Rattle.reader.specs.Key.{key_for}
use Rattle.reader.specs.Tag.{method_for, scheme_for, mark_for}
use Rattle.reader.specs.Object.{Choice, tagged, scheme_of, mark_of, key_under, Protected, ProtectsUnder, Gives, Recovered, RestoresUnder, Resolved}
use Rattle.promises.specs.Calls.{intake}
use Rattle.promises.specs.Promises.{Enough, Each, ComesBack, SameFile, RunsAgree, AnswersAs, Passes, RestoresAs}
use Rattle.promises.proofs.Keys.{key_bytes}
use Rattle.promises.proofs.Runs.{clash, run_agrees}

-- an admitted restoring gives what is ahead
given : (q : Residual) (m : Mark) (x old new : Bytes) (r : Result Output Refusal) → Recovered true q m x old r new → Enough r → Gives m (q.ahead x) old r new
given q m x old new r (short, enough) (_, _, room) =
    elim (cases_lt (length old) (space q (length x))) [ inl less ↦ absurd (room (short less).0) | inr more ↦ enough more ]

front : (w old new : Bytes) → Writes w old new → take (length w) new ≡ w
front w old new is = ap (take (length w)) is ∙ take_at w (drop (length w) old) (length w) refl

same_gives : (m : Mark) (o : Option Bytes) (x_old x_new y_old y_new : Bytes) (r s : Result Output Refusal) → Gives m o x_old r x_new → Gives m o y_old s y_new → AnswersAs r x_new s y_new
same_gives m None x_old x_new y_old y_new (Ok a) s (p, _) _ = absurd (clash _ _ p)
same_gives m None x_old x_new y_old y_new (Err d) (Ok b) _ (q, _) = absurd (clash _ _ q)
same_gives m None x_old x_new y_old y_new (Err d) (Err e) (p, _) (q, _) = cc
same_gives m (Some w) x_old x_new y_old y_new (Err d) s (p, _) _ = absurd (clash _ _ (sym p))
same_gives m (Some w) x_old x_new y_old y_new (Ok a) (Err e) _ (q, _) = absurd (clash _ _ (sym q))
same_gives m (Some w) x_old x_new y_old y_new (Ok a) (Ok b) (p, u) (q, v) =
    let a_is : a ≡ record { mark = m; count = length w } = cc in
    let b-is : b ≡ record { mark = m; count = length w } = cc in
    let f = front w x_old x_new u in
    let g = front w y_old y_new v in (
      a_is ∙ sym b-is,
      ap (λ o. take o.count x_new) a_is ∙ f ∙ sym g ∙ sym (ap (λ o. take o.count y_new) b-is),
    )

same_refusal : (e : Refusal) (x_new y_new : Bytes) (r s : Result Output Refusal) → r ≡ Err e → s ≡ Err e → AnswersAs r x_new s y_new
same_refusal e x_new y_new (Ok a) s p q = absurd (clash _ _ p)
same_refusal e x_new y_new (Err d) (Ok b) p q = absurd (clash _ _ q)
same_refusal e x_new y_new (Err d) (Err c) p q = cc

-- the same restoring answers the same
same_answer : (admitted : Bool) (q : Residual) (m : Mark) (x x_old x_new y_old y_new : Bytes) (r s : Result Output Refusal) → Recovered admitted q m x x_old r x_new → Recovered admitted q m x y_old s y_new → Enough r → Enough s → AnswersAs r x_new s y_new
same_answer false q m x x_old x_new y_old y_new r s (p, _) (t, _) _ _ = same_refusal _ x_new y_new r s p t
same_answer true q m x x_old x_new y_old y_new r s p t c d =
    same_gives m (q.ahead x) x_old x_new y_old y_new r s (given q m x x_old x_new r p c) (given q m x y_old y_new s t d)

-- a copy that is passed on
passes : (x old new : Bytes) (r : Result Output Refusal) → Recovered true copying mark.Passed x old r new → Enough r → Passes x r new
passes x old new r restored enough =
    let g = given copying mark.Passed x old new r restored enough in (g.0, front x old new g.1)

-- restoring by a method, with the file's key and a mark
abbrev Under : Scheme → Mark → Bytes → Object → Bytes → Bytes → Result Output Refusal → Bytes → Type 0
Under m a k o x old r new = RestoresUnder m (key_for m.takes k o) a x old r new

under_as : (m : Scheme) (a : Mark) (k j : Bytes) (o : Object) (x x_old x_new y_old y_new : Bytes) (r s : Result Output Refusal) → k ≡ j → Under m a k o x x_old r x_new → Under m a j o x y_old s y_new → Enough r → Enough s → AnswersAs r x_new s y_new
under_as m a k j o x x_old x_new y_old y_new r s same p q =
    same_answer _ _ a x x_old x_new y_old y_new r s (subst (λ i. Under m a i o x x_old r x_new) same p) q

tag_as : (t u : Option Tag) (k j : Bytes) (o : Object) (x x_old x_new y_old y_new : Bytes) (r s : Result Output Refusal) → k ≡ j → Below t u → Under (scheme_for t) (mark_for t) k o x x_old r x_new → Under (scheme_for u) (mark_for u) j o x y_old s y_new → Enough r → Enough s → AnswersAs r x_new s y_new ⊎ Passes x r x_new
tag_as t u k j o x x_old x_new y_old y_new r s same (inl is) p q c d =
    inl (under_as (scheme_for u) (mark_for u) k j o x x_old x_new y_old y_new r s same (subst (λ v. Under (scheme_for v) (mark_for v) k o x x_old r x_new) is p) q c d)
tag_as t u k j o x x_old x_new y_old y_new r s same (inr is) p q c d =
    inr (passes x x_old x_new r (subst (λ v. Under (scheme_for v) (mark_for v) k o x x_old r x_new) is p) c)

tags_as : (x y : Opened) → Narrower x y → (t : Target) → RestoresAs x y (tagged t)
tags_as x y narrower target.String o bytes x_old x_new y_old y_new r s =
    tag_as x.tags.string y.tags.string x.key y.key o bytes x_old x_new y_old y_new r s narrower.key narrower.string
tags_as x y narrower target.Stream o bytes x_old x_new y_old y_new r s =
    tag_as x.tags.stream y.tags.stream x.key y.key o bytes x_old x_new y_old y_new r s narrower.key narrower.stream

-- each restoring from the narrower file
pub restores_as : {M : Type 0} (scheme : M → Scheme) (x y : Opened) → Narrower x y → Each scheme (RestoresAs x y)
restores_as scheme x y narrower = record {
  by_tag = tags_as x y narrower;
  by_method = λ m o bytes x_old x_new y_old y_new r s p q c d. inl (under_as (scheme m) mark.Restored x.key y.key o bytes x_old x_new y_old y_new r s narrower.key p q c d);
}

-- what an accepted protecting stored
stored_is : (b : Bool) (n k : ℕ) (w old new : Bytes) → Protected b n w old (Ok k) new → (b ≡ true) × (k ≡ length w) × Writes w old new
stored_is false n k w old new (p, _) = absurd (clash _ _ p)
stored_is true n k w old new (short, enough) =
    elim (cases_lt (length old) n) [
      | inl less ↦ absurd (clash _ _ (short less).0)
      | inr more ↦ (refl, (let e : k ≡ length w = cc (enough more).0 in e), (enough more).1)
    ]

-- what a lawful method protects comes back
comes : (m : Scheme) → Lawful m → (f : Opened) → Octets f.key → (o : Object) (vector original stored_in stored restored_in restored : Bytes) (n : ℕ) (r : Result Output Refusal) → length vector ≡ 16 → Octets vector → Octets original → ProtectsUnder m (key_under m f o) vector original stored_in (Ok n) stored → Under m mark.Restored f.key o (take n stored) restored_in r restored → Enough r → Gives mark.Restored (Some original) restored_in r restored
comes m lawful f octets o vector original stored_in stored restored_in restored n r sixteen vector-octets original-octets stores restores enough =
    let k = key_under m f o in
    let w = m.stored k vector original in
    let s = stored_is _ _ n w stored_in stored stores in
    let sound : Sound m k vector original = record { admitted = s.0; sixteen = sixteen; key = key_bytes m.takes f.key o octets; vector = vector-octets; content = original-octets } in
    let is : take n stored ≡ w = ap (λ i. take i stored) s.1 ∙ front w stored_in stored s.2 in
    let back : (m.restoring k).ahead (take n stored) ≡ Some original = ap (m.restoring k).ahead is ∙ lawful.restores k vector original sound in
    let admitted = subst (λ b. Recovered b (m.restoring k) mark.Restored (take n stored) restored_in r restored) s.0 restores in
    subst (λ a. Gives mark.Restored a restored_in r restored) back (given (m.restoring k) mark.Restored (take n stored) restored_in restored r admitted enough)

tag_comes : (t : Option Tag) (f : Opened) → Octets f.key → (o : Object) (vector original stored_in stored restored_in restored : Bytes) (n : ℕ) (r : Result Output Refusal) → length vector ≡ 16 → Octets vector → Octets original → Resolved t stored_in (Ok n) stored (ProtectsUnder (scheme_for t) (key_under (scheme_for t) f o) vector original stored_in (Ok n) stored) → Under (scheme_for t) (mark_for t) f.key o (take n stored) restored_in r restored → Enough r → Gives mark.Restored (Some original) restored_in r restored
tag_comes (Some t) f octets o vector original stored_in stored restored_in restored n r = comes (scheme_for (Some t)) (tag_lawful (method_for (Some t))) f octets o vector original stored_in stored restored_in restored n r
tag_comes None f octets o vector original stored_in stored restored_in restored n r = λ sixteen _ _ refused restores enough. absurd (clash _ _ refused.0)

comes_back : {M : Type 0} (scheme : M → Scheme) → ((m : M) → Lawful (scheme m)) → (x : Opened) → Octets x.key → Each scheme (ComesBack x x)
comes_back scheme lawful x octets = record {
  by_tag = λ t. tag_comes (tag_for x.tags t) x octets;
  by_method = λ m. comes (scheme m) (lawful m) x octets;
}

-- a file and one with the same key and tags
pub same_file : {M : Type 0} (scheme : M → Scheme) → ((m : M) → Lawful (scheme m)) → (x y : Opened) → Octets x.key → y ≡ x → SameFile scheme x y
same_file scheme lawful x y octets same =
    let own = comes_back scheme lawful x octets in
    record {
      key_and_tags = same;
      first = own;
      across = subst (λ z. Each scheme (ComesBack x z)) (sym same) own;
      back = subst (λ z. Each scheme (ComesBack z x)) (sym same) own;
      second = subst (λ z. Each scheme (ComesBack z z)) (sym same) own;
    }

pub runs_agree : (c : Choice) → RunsAgree c
runs_agree c file o f g cs goes i before (admits, fresh) =
    let k = key_under (scheme_of file c) file o in
    let q = (scheme_of file c).restoring k in
    let m = mark_of file c in
    let agrees = run_agrees q m f g cs goes i before fresh in
    record {
      agrees = agrees;
      restored = λ shut old new r restores enough. subst (λ w. Gives m w old r new) (agrees.ends shut).1 (given q m (intake i cs) old new r (subst (λ b. Recovered b q m (intake i cs) old r new) admits restores) enough);
    }

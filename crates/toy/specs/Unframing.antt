-- Restoring the framed form, piece by piece and whole.
use Rattle.std.specs.Prelude.{◌≡◌, ℕ, ◌+◌, ◌-◌, ◌≤◌, min, Bool, true, false, cond, [], ◌∷◌, ◌++◌, length, take, drop, set, Some, None, Ok, Option, ◌==◌, ◌≢◌, nat_lt, slice_set, refl}
use Rattle.std.proofs.Common.{sym, ap, subst, ◌∙◌, inl, inr, append_assoc, suc-le-suc, le_refl, arith, length-append, length-drop}
use Rattle.std.proofs.Math.Nat.{sub-zero}
use borrow.Rule.Slice.PartMut.{put_mid, post_of}
use Rattle.std.proofs.Math.Seq.{drop-append-add}
use Rattle.std.proofs.lemmas.List.{drop-append-le, drop_all, drop_at, append-nil, nil_from_length, take_at, take_rest, set-append_right, drop-drop}
use Rattle.std.proofs.lemmas.Bool.{cases_lt, lt-ltb, le-ltb, eq-eqb, ne_eqb}
use Rattle.std.specs.List.{IsLastAndRest}
use Rattle.byte_strings.specs.Bytes.{Bytes, Writes}
use Rattle.methods.specs.Refusal.{given, Gives}
use Rattle.methods.specs.Running.{Feeds, Fed, Fits, after}
use Rattle.methods.specs.Method.{Lawful}
use Rattle.methods.proofs.Feedings.{fed}
use Rattle.toy.specs.Framed.{framed_scheme, strip, stored_form, unframing, listed}

pub strip_append : (w : Bytes) (y : ℕ) (ys : Bytes) → strip (w ++ y ∷ ys) ≡ w ++ strip (y ∷ ys)
strip_append [] y ys = refl
strip_append (x ∷ []) y ys = refl
strip_append (x ∷ x' ∷ w) y ys = ap (λ v. x ∷ v) (strip_append (x' ∷ w) y ys)

strip-last : (b : Bool) (x : ℕ) → length (cond b [] (x ∷ [])) ≤ 1
strip-last true x = omega arith
strip-last false x = le_refl 1

pub strip-length : (x : Bytes) → length (strip x) ≤ length x
strip-length [] = omega arith
strip-length (x ∷ []) = strip-last (x == 128) x
strip-length (x ∷ y ∷ ys) = suc-le-suc (strip-length (y ∷ ys))

pub drop_append : (m : ℕ) (p r : Bytes) → drop m (p ++ r) ≡ drop m p ++ drop (m - length p) r
drop_append m p r =
    elim (cases_lt (length p) m) [
      | inl past ↦
          let k : length p + (m - length p) ≡ m = omega arith in
          ap (λ n. drop n (p ++ r)) (sym k) ∙ drop-append-add p r (m - length p) ∙ ap (λ v. v ++ drop (m - length p) r) (sym (drop_all m p (omega arith)))
      | inr within ↦
          let none : m - length p ≡ 0 = omega arith in
          drop-append-le m p r within ∙ ap (λ n. drop m p ++ drop n r) (sym none)
    ]

-- what is held, and what comes
strip_split : (w h rest : Bytes) → (h ≡ [] → w ≡ []) → strip (w ++ (h ++ rest)) ≡ w ++ strip (h ++ rest)
strip_split w [] rest none = ap (λ v. strip (v ++ rest)) (none refl) ∙ ap (λ v. v ++ strip rest) (sym (none refl))
strip_split w (b ∷ h) rest none = strip_append w b (h ++ rest)

module _ (m : ℕ) (h p w k : Bytes) (all : h ++ drop m p ≡ w ++ k) (held : length k ≡ min 1 (length h + (length p - m))) where
  total : length w + length k ≡ length h + (length p - m)
  total = sym (length-append w k) ∙ sym (ap length all) ∙ length-append h (drop m p) ∙ ap (λ n. length h + n) (length-drop m p)

  rest_split : (r : Bytes) → strip (h ++ drop m (p ++ r)) ≡ w ++ strip (k ++ drop (m - length p) r)
  rest_split r =
      let t = total in
      let none : k ≡ [] → w ≡ [] = λ e. let z = ap length e in nil_from_length w (omega (arith, z, t, held)) in
      ap (λ v. strip (h ++ v)) (drop_append m p r) ∙ ap strip (sym (append_assoc h (drop m p) (drop (m - length p) r)) ∙ ap (λ v. v ++ drop (m - length p) r) all ∙ append_assoc w k (drop (m - length p) r))
      ∙ strip_split w k (drop (m - length p) r) none

  split : (r : Bytes) → (unframing m h).ahead (p ++ r) ≡ after w ((unframing (m - length p) k).ahead r)
  split r =
      let long = length-append p r in
      elim (cases_lt (length (p ++ r)) m) [
        | inl less ↦
            ap (λ b. cond b None (Some (strip (h ++ drop m (p ++ r))))) (lt-ltb _ _ less)
            ∙ sym (ap (λ b. after w (cond b None (Some (strip (k ++ drop (m - length p) r))))) (lt-ltb (length r) (m - length p) (omega (arith, long))))
        | inr more ↦
            ap (λ b. cond b None (Some (strip (h ++ drop m (p ++ r))))) (le-ltb _ _ more)
            ∙ ap Some (rest_split r)
            ∙ sym (ap (λ b. after w (cond b None (Some (strip (k ++ drop (m - length p) r))))) (le-ltb (length r) (m - length p) (omega (arith, long))))
      ]

  pub unframing_feeds : Feeds (unframing m h) p w (unframing (m - length p) k)
  unframing_feeds = record { split = split; exact = let t = total in omega (arith, t, held); space = held; steady = λ e. let z : ◌≡◌ {A = ℕ} 0 1 = cc in absurd (omega arith) }

some_strip : (b : Bool) (x w : Bytes) → cond b None (Some (strip x)) ≡ Some w → length w ≤ length x
some_strip true x w e = let z : ◌≡◌ {A = ℕ} 0 1 = cc in absurd (omega arith)
some_strip false x w e = let same : strip x ≡ w = cc in subst (λ v. length v ≤ length x) same (strip-length x)

pub unframing_fits : (m : ℕ) (h : Bytes) → Fits (unframing m h)
unframing_fits m h = record {
  closing = λ w e. let most = some_strip (nat_lt 0 m) (h ++ drop m []) w e in omega (arith, most, length-append h (drop m []), length-drop {A = ℕ} m []);
  whole = λ x w e. let most = some_strip (nat_lt (length x) m) (h ++ drop m x) w e in omega (arith, most, length-append h (drop m x), length-drop m x);
}

pub framed_length : (v d : Bytes) → length v ≡ 16 → length (stored_form v d) ≡ length d + 17
framed_length v d e = omega (arith, length-append v (d ++ 128 ∷ []), length-append d (128 ∷ []))

pub framed_comes_back : (v d : Bytes) → length v ≡ 16 → (unframing 16 []).ahead (stored_form v d) ≡ Some d
framed_comes_back v d e =
    let long = framed_length v d e in
    ap (λ b. cond b None (Some (strip (drop 16 (stored_form v d))))) (le-ltb _ _ (omega (arith, long)))
    ∙ ap Some (ap strip (drop_at v (d ++ 128 ∷ []) 16 e) ∙ strip_append d 128 [] ∙ append-nil d)

-- a list of one byte
strip_one : (b : ℕ) → b ≡ 128 → strip (b ∷ []) ≡ []
strip_one b e = ap (λ t. cond t [] (b ∷ [])) (eq-eqb b 128 e)

keep_one : (b : ℕ) → (b ≢ 128) → strip (b ∷ []) ≡ b ∷ []
keep_one b e = ap (λ t. cond t [] (b ∷ [])) (ne_eqb b 128 e)

pub strip_marked : (x rest : Bytes) (b : ℕ) → IsLastAndRest x b rest → b ≡ 128 → rest ≡ strip x
strip_marked x rest b apart is = sym (ap strip apart.0 ∙ strip_append rest b [] ∙ ap (λ v. rest ++ v) (strip_one b is) ∙ append-nil rest)

pub strip_unmarked : (x rest : Bytes) (b : ℕ) → IsLastAndRest x b rest → (b ≢ 128) → x ≡ strip x
strip_unmarked x rest b apart is = sym (ap strip apart.0 ∙ strip_append rest b [] ∙ ap (λ v. rest ++ v) (keep_one b is) ∙ sym apart.0)

-- closing, once the header is complete
pub closes : (m : ℕ) (h w old new : Bytes) → m ≤ 0 → strip h ≡ w → Writes w old new → Gives (given ((unframing m h).ahead [])) old (Ok (length w)) new
closes m h w old new none is writes =
    let zero : m ≡ 0 = omega arith in
    let kept : (unframing 0 h).ahead [] ≡ Some w = ap Some (ap strip (append-nil h) ∙ is) in
    subst (λ k. Gives (given ((unframing k h).ahead [])) old (Ok (length w)) new) (sym zero) (subst (λ o. Gives (given o) old (Ok (length w)) new) (sym kept) (refl, writes))

pub closes_marked : (m b : ℕ) (o : Option ℕ) (old : Bytes) → m ≤ 0 → o ≡ Some b → b ≡ 128 → Gives (given ((unframing m (listed o)).ahead [])) old (Ok 0) old
closes_marked m b o old none is marked = closes m (listed o) [] old old none (ap (λ v. strip (listed v)) is ∙ strip_one b marked) refl

set_first : (old : Bytes) (b : ℕ) → 1 ≤ length old → slice_set old 0 b ≡ b ∷ drop 1 old
set_first [] b e = absurd (omega arith)
set_first (x ∷ old) b e = refl

pub closes_held : (m b : ℕ) (o : Option ℕ) (old : Bytes) → m ≤ 0 → o ≡ Some b → (b ≢ 128) → length (listed o) ≤ length old → Gives (given ((unframing m (listed o)).ahead [])) old (Ok 1) (slice_set old 0 b)
closes_held m b o old none is other room =
    let one : 1 ≤ length old = subst (λ v. length (listed v) ≤ length old) is room in
    closes m (listed o) (b ∷ []) old (slice_set old 0 b) none (ap (λ v. strip (listed v)) is ∙ keep_one b other) (set_first old b one)

-- whole restoring
pub whole-given : (x : Bytes) → 16 ≤ length x → (unframing 16 []).ahead x ≡ Some (strip (drop 16 x))
whole-given x e = ap (λ b. cond b None (Some (strip (drop 16 x)))) (le-ltb _ _ e)

listed_short : (o : Option ℕ) → length (listed o) ≤ 1
listed_short None = omega arith
listed_short (Some b) = le_refl 1

-- a piece without the part of it that belongs to the header
abbrev body : ℕ → Bytes → Bytes
body skip p = take (length p - skip) (drop skip p)

module _ (m skip : ℕ) (p : Bytes) (most : skip ≡ min m (length p)) where
  body_is : body skip p ≡ drop m p
  body_is =
      take_rest p skip ∙
      elim (cases_lt (length p) m) [
        | inl past ↦ drop_all skip p (omega arith) ∙ sym (drop_all m p (omega arith))
        | inr within ↦ ap (λ k. drop k p) (omega arith)
      ]

  body-length : length (body skip p) ≡ length p - m
  body-length = ap length body_is ∙ length-drop m p

  missing_is : m - skip ≡ m - length p
  missing_is = omega arith

  -- a piece that ends in the header
  pub fed_none : (o : Option ℕ) (old : Bytes) → length (body skip p) ≡ 0 → Fed (unframing m (listed o)) p old (unframing (m - skip) (listed o)) 0 old
  fed_none o old none =
      let long = body-length in
      let short = listed_short o in
      let all : listed o ++ drop m p ≡ listed o = ap (λ v. listed o ++ v) (nil_from_length (drop m p) (sym (ap length body_is) ∙ none)) ∙ append-nil (listed o) in
      subst (λ k. Fed (unframing m (listed o)) p old (unframing k (listed o)) 0 old) (sym missing_is)
      (fed (unframing m (listed o)) (unframing (m - length p) (listed o)) p [] old old 0 (unframing_feeds m (listed o) p [] (listed o) all (omega (arith, long, short, none))) refl refl)

  -- a piece that does not: its last byte is held back
  module _ (o : Option ℕ) (front : Bytes) (last : ℕ) (old new : Bytes) (count : ℕ) (apart : IsLastAndRest (body skip p) last front) (counts : count ≡ length (listed o) + length front) (writes : Writes (listed o ++ front) old new) where
    pub fed_some : Fed (unframing m (listed o)) p old (unframing (m - skip) (last ∷ [])) count new
    fed_some =
        let long = body-length in
        let w : Bytes = listed o ++ front in
        let all : listed o ++ drop m p ≡ (listed o ++ front) ++ last ∷ [] = ap (λ v. listed o ++ v) (sym body_is ∙ apart.0) ∙ sym (append_assoc (listed o) front (last ∷ [])) in
        subst (λ k. Fed (unframing m (listed o)) p old (unframing k (last ∷ [])) count new) (sym missing_is)
        (fed (unframing m (listed o)) (unframing (m - length p) (last ∷ [])) p w old new count (unframing_feeds m (listed o) p w (last ∷ []) all (omega (arith, long, apart.1)))
        (counts ∙ sym (length-append (listed o) front)) writes)

-- the last byte behind the header and the data
marks : (v d r : Bytes) (n : ℕ) → length v ≡ 16 → n ≡ length d + 16 → 1 ≤ length r → slice_set (v ++ (d ++ r)) n 128 ≡ stored_form v d ++ drop 1 r
marks v d r n sixteen n-is some =
    let at : n - 16 - length d ≡ 0 = omega arith in
    set-append_right v (d ++ r) 16 n 128 sixteen (omega arith)
    ∙ ap (λ u. v ++ u) (set-append_right d r (length d) (n - 16) 128 refl (omega arith) ∙ ap (λ k. d ++ slice_set r k 128) at ∙ ap (λ u. d ++ u) (set_first r 128 some) ∙ sym (append_assoc d (128 ∷ []) (drop 1 r)))
    ∙ sym (append_assoc v (d ++ 128 ∷ []) (drop 1 r))

-- what protecting writes: the header, the data, the last byte
pub protects : (v d a b old : Bytes) (n k : ℕ) → length v ≡ 16 → n ≡ length d + 16 → k ≡ length d → length d + 17 ≤ length old → a ≡ v → b ≡ d → Writes (stored_form v d) old (slice_set (put_mid 16 k (a ++ post_of 0 16 old) b) n 128)
protects v d a b old n k sixteen n-is k-is room a_is b-is =
    let header : take 16 (a ++ post_of 0 16 old) ≡ v = ap (λ u. take 16 (u ++ post_of 0 16 old)) a_is ∙ take_at v _ 16 sixteen in
    let behind : post_of 16 k (a ++ post_of 0 16 old) ≡ drop n old = ap (λ u. drop k (drop 16 (u ++ drop 16 old))) a_is ∙ ap (drop k) (drop_at v _ 16 sixteen) ∙ drop-drop k 16 old ∙ ap (λ i. drop i old) (omega arith) in
    let all : put_mid 16 k (a ++ post_of 0 16 old) b ≡ v ++ (d ++ drop n old) = ap (λ u. u ++ (b ++ post_of 16 k (a ++ post_of 0 16 old))) header ∙ ap (λ u. v ++ (u ++ post_of 16 k (a ++ post_of 0 16 old))) b-is ∙ ap (λ u. v ++ (d ++ u)) behind in
    let left : 1 ≤ length (drop n old) = simp length-drop (omega arith) in
    let end : drop 1 (drop n old) ≡ drop (length (stored_form v d)) old = let long = framed_length v d sixteen in drop-drop 1 n old ∙ ap (λ i. drop i old) (omega (arith, long)) in
    ap (λ u. set u n 128) all ∙ marks v d (drop n old) n sixteen n-is left ∙ ap (λ u. stored_form v d ++ u) end

-- what whole restoring writes
pub restores : (x rest s a old : Bytes) → 16 ≤ length x → rest ≡ drop 16 x → s ≡ strip rest → a ≡ s → Gives (given ((unframing 16 []).ahead x)) old (Ok (length s)) (a ++ post_of 0 (length s - 0) old)
restores x rest s a old long rest_is is a_is =
    let whole : s ≡ strip (drop 16 x) = is ∙ ap strip rest_is in
    subst (λ o. Gives (given o) old (Ok (length s)) (a ++ post_of 0 (length s - 0) old)) (sym (whole-given x long))
    (ap (λ v. Ok (length v)) whole, ap (λ v. v ++ post_of 0 (length s - 0) old) (a_is ∙ whole) ∙ ap (λ k. strip (drop 16 x) ++ drop k old) (sub-zero (length s) ∙ ap length whole))

pub restores_room : (x rest s : Bytes) (m : ℕ) → rest ≡ drop 16 x → s ≡ strip rest → length x - 16 ≤ m → length s ≤ m
restores_room x rest s m rest_is is room = omega (arith, ap length (is ∙ ap strip rest_is), strip-length (drop 16 x), room, length-drop 16 x)

pub framed_lawful : Lawful framed_scheme
framed_lawful = record { sized = λ k v d s. framed_length v d s.sixteen; restores = λ k v d s. framed_comes_back v d s.sixteen }

-- The padding of a block by its last byte, of the last block of several, and of padded data.
use Rattle.std.proofs.Common.{◌≡◌, ℕ, zero, suc, ◌+◌, ◌-◌, ◌*◌, ◌/◌, List, ◌<◌, ◌≤◌, Bool, true, false, cond, ◌&&◌, ltb, leb, ◌++◌, length, get_or, take, drop, replicate, sym, refl, ap, ◌∙◌, subst, ap₂, inl, inr, arith}
use lib.Seq.{take-append-add, drop-append-add}
use Rattle.std.proofs.lemmas.List.{length-append, length-drop, length-replicate, take_all, take-append-le, drop-append-le, get_or-append_right, get_or-replicate}
use Rattle.std.proofs.lemmas.Bool.{cases_lt, cases_Bool, eq-eqb, lt-ltb, le-leb, le-ltb, ltb-true, and_parts, cond-true, cond-false}
use Rattle.std.specs.Simd.{first_chunks}
use Rattle.byte_strings.specs.Bytes.{Bytes}
use Rattle.cbc.specs.Pad.{all_are, last_byte, pad_length, padded, padded_by, padding_of, cut_by}
use Rattle.cbc.specs.Chaining.{removed}
use Rattle.cbc.proofs.Parts.{take_seam, drop_seam}
use Rattle.cbc.proofs.Chunks.{chunk_at}

-- a block that ends in the byte k
module _ (b : Bytes) (n : length b ≡ 16) (k : ℕ) (ends : k ≡ get_or b 15 0) where
  told : (t : Bool) → (ltb 0 k && ltb k 17) && (leb k 16 && all_are k (drop (16 - k) b)) ≡ t → cond t k 0 ≡ padding_of b
  unfolding padding_of padded_by
  told t h =
      let l : last_byte b ≡ k = ap (λ (m : ℕ). get_or b (m - 1) 0) n ∙ sym ends in
      let p : padded_by k b ≡ t = ap (λ (m : ℕ). (ltb 0 k && ltb k 17) && (leb k m && all_are k (drop (m - k) b))) n ∙ h in
      sym (ap (λ (m : ℕ). cond (padded_by m b) m 0) l ∙ ap (λ (u : Bool). cond u k 0) p)

  pub pad-zero : k ≡ 0 → 0 ≡ padding_of b
  pad-zero e = told false (ap (λ (u : Bool). (u && ltb k 17) && (leb k 16 && all_are k (drop (16 - k) b))) (le-ltb 0 k (omega arith)))

  pub pad_large : 16 < k → 0 ≡ padding_of b
  pad_large e =
      told false (ap₂ (λ (u v : Bool). (u && v) && (leb k 16 && all_are k (drop (16 - k) b))) (lt-ltb 0 k (omega arith)) (le-ltb k 17 (omega arith)))

  pub pad_by : (t : Bool) → 0 < k → k ≤ 16 → all_are k (drop (16 - k) b) ≡ t → cond t k 0 ≡ padding_of b
  pad_by t p q e = told t (ap₂ ◌&&◌ (ap₂ ◌&&◌ (lt-ltb 0 k p) (lt-ltb k 17 (omega arith))) (ap₂ ◌&&◌ (le-leb k 16 q) e))

padded_small : (k : ℕ) (x : Bytes) → padded_by k x ≡ true → k < 17
unfolding padded_by
padded_small k x e =
    let outer = and_parts (ltb 0 k && ltb k 17) (leb k (length x) && all_are k (drop (length x - k) x)) e in
    ltb-true k 17 (and_parts (ltb 0 k) (ltb k 17) outer.0).1

not-padded : (k : ℕ) (x : Bytes) → 17 ≤ k → padded_by k x ≡ false
unfolding padded_by
not-padded k x h =
    elim (cases_Bool (ltb 0 k)) [
      | inl yes' ↦ ap₂ (λ (u v : Bool). (u && v) && (leb k (length x) && all_are k (drop (length x - k) x))) yes' (le-ltb k 17 h)
      | inr no' ↦ ap (λ (u : Bool). (u && ltb k 17) && (leb k (length x) && all_are k (drop (length x - k) x))) no'
    ]

pub padding_few : (x : Bytes) → padding_of x ≤ 16
unfolding padding_of
padding_few x =
    elim (cases_Bool (padded_by (last_byte x) x)) [
      | inl some ↦ let small = padded_small (last_byte x) x some in subst (λ (n : ℕ). n ≤ 16) (sym (cond-true (padded_by (last_byte x) x) (last_byte x) 0 some)) (omega (arith, small))
      | inr none ↦ subst (λ (n : ℕ). n ≤ 16) (sym (cond-false (padded_by (last_byte x) x) (last_byte x) 0 none)) (omega arith)
    ]

-- only the last block can lose bytes
module _ (a y : Bytes) (long : 16 ≤ length y) where
  total : length (a ++ y) ≡ length a + length y
  total = length-append a y

  last_same : last_byte (a ++ y) ≡ last_byte y
  last_same =
      let t = total in
      get_or-append_right a y (length a) (length (a ++ y) - 1) 0 refl (omega (arith, t)) ∙ ap (λ (n : ℕ). get_or y n 0) (omega (arith, t))

  padded_same : (k : ℕ) → padded_by k (a ++ y) ≡ padded_by k y
  unfolding padded_by
  padded_same k =
      let t = total in
      elim (cases_lt k 17) [
        | inl small ↦
            let at : length (a ++ y) - k ≡ length a + (length y - k) = omega (arith, t) in
            ap₂ (λ (u : Bool) (v : Bytes). (ltb 0 k && ltb k 17) && (u && all_are k v)) (le-leb k (length (a ++ y)) (omega (arith, t)) ∙ sym (le-leb k (length y) (omega arith)))
            (ap (λ (n : ℕ). drop n (a ++ y)) at ∙ drop-append-add a y (length y - k))
        | inr large ↦ not-padded k (a ++ y) large ∙ sym (not-padded k y large)
      ]

  pub padding-front : padding_of (a ++ y) ≡ padding_of y
  unfolding padding_of
  padding-front = ap (λ (k : ℕ). cond (padded_by k (a ++ y)) k 0) last_same ∙ ap (λ (t : Bool). cond t (last_byte y) 0) (padded_same (last_byte y))

pub removed_few : (unpad : Bool) (x : Bytes) → removed unpad x ≤ 16
removed_few true x = padding_few x
removed_few false x = omega arith

removed-front : (unpad : Bool) (a y : Bytes) → 16 ≤ length y → removed unpad (a ++ y) ≡ removed unpad y
removed-front true a y long = padding-front a y long
removed-front false a y long = refl

pub cut_front : (unpad : Bool) (a y : Bytes) → length y ≡ 16 → cut_by (removed unpad (a ++ y)) (a ++ y) ≡ a ++ take (16 - removed unpad y) y
cut_front unpad a y sixteen =
    let k : ℕ = removed unpad y in
    let few = removed_few unpad y in
    let at : length (a ++ y) - removed unpad (a ++ y) ≡ length a + (16 - removed unpad y) =
    omega (arith, length-append a y, removed-front unpad a y (omega arith), few) in
    ap (λ (n : ℕ). take n (a ++ y)) at ∙ take-append-add a y (16 - k)

all_are-replicate : (n k : ℕ) → all_are k (replicate n k) ≡ true
all_are-replicate zero k = refl
all_are-replicate (suc n) k = ap₂ ◌&&◌ (eq-eqb k k refl) (all_are-replicate n k)

pub pad_undone : (x : Bytes) → cut_by (padding_of (padded x)) (padded x) ≡ x
unfolding padding_of padded_by
pad_undone x =
    let p : ℕ = pad_length (length x) in
    let r : Bytes = replicate p p in
    let low : 0 < p = omega arith in
    let high : p < 17 = omega arith in
    let l : length (x ++ r) ≡ length x + p = length-append x r ∙ ap (λ (n : ℕ). length x + n) (length-replicate p p) in
    let last : last_byte (x ++ r) ≡ p =
    get_or-append_right x r (length x) (length (x ++ r) - 1) 0 refl (omega arith)
    ∙ get_or-replicate p (length (x ++ r) - 1 - length x) p 0 (omega arith) in
    let start : length x ≡ length (x ++ r) - p = omega arith in
    let all : all_are p (drop (length (x ++ r) - p) (x ++ r)) ≡ true =
    ap (all_are p) (drop_seam (length (x ++ r) - p) x r start) ∙ all_are-replicate p p in
    let test : padded_by p (x ++ r) ≡ true =
    ap₂ ◌&&◌ (ap₂ ◌&&◌ (lt-ltb 0 p low) (lt-ltb p 17 high)) (ap₂ ◌&&◌ (le-leb p (length (x ++ r)) (omega arith)) all) in
    let told : padding_of (x ++ r) ≡ p = ap (λ (k : ℕ). cond (padded_by k (x ++ r)) k 0) last ∙ ap (λ (t : Bool). cond t p 0) test in
    ap (λ (k : ℕ). take (length (x ++ r) - k) (x ++ r)) told ∙ take_seam (length (x ++ r) - p) x r start

-- a complete block of the padded data
pub padded_chunk : (x : Bytes) (blocks : List Bytes) (n : ℕ) (d : Bytes) → blocks ≡ first_chunks 16 (length x / 16) x → n < length x / 16
    → get_or blocks n d ≡ take 16 (drop (n * 16) (padded x))
padded_chunk x blocks n d are h =
    let q : ℕ = pad_length (length x) in
    let all : drop (n * 16) (padded x) ≡ drop (n * 16) x ++ replicate q q = drop-append-le (n * 16) x (replicate q q) (omega arith) in
    ap (λ (l : List Bytes). get_or l n d) are ∙ chunk_at (length x / 16) n x d h
    ∙ sym (take-append-le 16 (drop (n * 16) x) (replicate q q) (omega (arith, length-drop (n * 16) x))) ∙ ap (take 16) (sym all)

-- the last block of the padded data
pub padded_last : (x rest : Bytes) → rest ≡ drop (length x / 16 * 16) x → padded rest ≡ take 16 (drop (length x / 16 * 16) (padded x))
padded_last x rest is =
    let q : ℕ = pad_length (length x) in
    let at : ℕ = length x / 16 * 16 in
    let d : Bytes = drop at x in
    let ld : length d ≡ length x - at = length-drop at x in
    let all : drop at (padded x) ≡ d ++ replicate q q = drop-append-le at x (replicate q q) (omega arith) in
    let few : pad_length (length d) ≡ q = omega (arith, ld) in
    let len : length (d ++ replicate q q) ≤ 16 = omega (arith, length-append d (replicate q q), length-replicate q q, ld) in
    ap padded is ∙ ap (λ (k : ℕ). d ++ replicate k k) few ∙ sym (take_all 16 (d ++ replicate q q) len) ∙ ap (take 16) (sym all)

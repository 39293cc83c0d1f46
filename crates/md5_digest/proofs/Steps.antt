-- One step, from its parts as the code has them.
use Rattle.std.proofs.Common.{◌≡◌, ℕ, zero, suc, ◌+◌, ◌-◌, ◌*◌, ◌/◌, ◌%◌, ◌^◌, ◌<◌, Bool, T, eqb, ltb, List, [], ◌∷◌, ◌++◌, fold, length, get_or, sym, refl, ap, ◌∙◌, ap₂, add-one, add-zero, zero-add, arith, eqb→eq, ltb→lt}
use Rattle.std.specs.List.{range_with_len}
use lib.Bits.{bit_or}
use Rattle.md5_digest.specs.declared.Registers.{Registers}
use Rattle.md5_digest.specs.Md5.{rotated, sum32, mixed, word_number, shift_amount, sines, step, steps}
use Rattle.md5_digest.proofs.Table.{both, every, at, both_left, both_right}

abbrev pub right : ℕ → ℕ → Bool
right i s = both (eqb s (shift_amount i)) (both (ltb 0 s) (ltb s 32))

-- the code's table, in its regular rows
abbrev four : List ℕ → List ℕ
four r = r ++ (r ++ (r ++ r))

abbrev pub shifts : List ℕ
shifts = four (7 ∷ 12 ∷ 17 ∷ 22 ∷ []) ++ (four (5 ∷ 9 ∷ 14 ∷ 20 ∷ []) ++ (four (4 ∷ 11 ∷ 16 ∷ 23 ∷ []) ++ four (6 ∷ 10 ∷ 15 ∷ 21 ∷ [])))

-- what a table with the right entries gives at each step
pub record Shift (i s : ℕ) : Type 0 where
  pub is : s ≡ shift_amount i
  pub above : 0 < s
  pub below : s < 32

pub shift_at : (table : List ℕ) → T (every right 0 table) → (i : ℕ) → i < length table → Shift i (get_or table i 0)
shift_at table t i h =
    let s = get_or table i 0 in
    let here = at right table t i h in
    let range = both_right (eqb (get_or table i 0) (shift_amount i)) (both (ltb 0 (get_or table i 0)) (ltb (get_or table i 0) 32)) here in
    record {
      is = eqb→eq (get_or table i 0) (shift_amount i) (both_left _ _ here);
      above = ltb→lt 0 (get_or table i 0) (both_left _ _ range);
      below = ltb→lt (get_or table i 0) 32 (both_right (ltb 0 (get_or table i 0)) _ range);
    }

-- `rotate_left`, by less than a whole turn
rotated_code : (x s : ℕ) → 0 < s → s < 32 → bit_or ((x * 2 ^ (s % 32)) % 2 ^ 32) (x / 2 ^ ((32 - s % 32) % 32)) ≡ rotated x s
rotated_code x s h k =
    let low : s % 32 ≡ s = omega arith in
    let high : (32 - s) % 32 ≡ 32 - s = omega arith in
    rw (low, high) refl

with_b : Registers → ℕ → Registers
with_b v r = record { a = v.d; b = sum32 v.b r; c = v.b; d = v.c }

module _ (ws : List ℕ) (i : ℕ) (v : Registers) (f g s r : ℕ) where
  abbrev pub turned : ℕ → ℕ
  turned x = bit_or ((x * 2 ^ (s % 32)) % 2 ^ 32) (x / 2 ^ ((32 - s % 32) % 32))

  pub step_is : Shift i s → f ≡ mixed i v → g ≡ word_number i → r ≡ turned (sum32 (sum32 (sum32 v.a f) (get_or sines i 0)) (get_or ws g 0)) →
      record { a = v.d; b = sum32 v.b r; c = v.b; d = v.c } ≡ step ws i v
  unfolding step with_b
  step_is shift hf hg hr =
      let code = rotated_code (sum32 (sum32 (sum32 v.a f) (get_or sines i 0)) (get_or ws g 0)) s shift.above shift.below in
      let parts : rotated (sum32 (sum32 (sum32 v.a f) (get_or sines i 0)) (get_or ws g 0)) s ≡ rotated (sum32 (sum32 (sum32 v.a (mixed i v)) (get_or sines i 0)) (get_or ws (word_number i) 0)) (shift_amount i) =
      ap₂ (λ m n. rotated (sum32 (sum32 (sum32 v.a m) (get_or sines i 0)) (get_or ws n 0)) s) hf hg ∙ ap (rotated (sum32 (sum32 (sum32 v.a (mixed i v)) (get_or sines i 0)) (get_or ws (word_number i) 0))) shift.is in
      ap (with_b v) (hr ∙ code ∙ parts)

pub steps_more : (ws : List ℕ) (v : Registers) (n : ℕ) → steps ws v (n + 1) ≡ step ws n (steps ws v n)
unfolding steps
steps_more ws v n = rw add-one refl

-- the steps as a fold over their numbers
fold-steps : (ws : List ℕ) (h : Registers) (n k : ℕ) → fold (λ v i. step ws i v) (steps ws h k) (range_with_len k n) ≡ steps ws h (k + n)
fold-steps ws h zero k = ap (steps ws h) (sym (add-zero k))
fold-steps ws h (suc n) k =
    let one : step ws k (steps ws h k) ≡ steps ws h (k + 1) = sym (steps_more ws h k) in
    let rest : k + 1 + n ≡ k + suc n = omega arith in
    ap (λ v. fold (λ v i. step ws i v) v (range_with_len (k + 1) n)) one ∙ fold-steps ws h n (k + 1) ∙ ap (steps ws h) rest

pub fold_is_steps : (ws : List ℕ) (h : Registers) (n : ℕ) → fold (λ v i. step ws i v) h (range_with_len 0 n) ≡ steps ws h n
unfolding steps
fold_is_steps ws h n = fold-steps ws h n 0 ∙ ap (steps ws h) (zero-add n)

-- The cases of the mask, and one word more of the schedule.
use Rattle.std.proofs.Common.{◌≡◌, ℕ, suc, refl, ◌+◌, ◌-◌, ◌/◌, ◌%◌, ◌<◌, ◌≤◌, true, false, ◌&&◌, eqb, ltb, List, [], ◌∷◌, ◌++◌, length, get_or, take, set, sym, ap, ◌∙◌, ap₂, arith}
use lib.Bits.{bit_xor, xor_zero_r}
use Rattle.std.proofs.lemmas.List.{get_or-take, take_more_set}
use Rattle.byte_strings.specs.Bytes.{Bytes}
use Rattle.aes.specs.Sbox.{sbox}
use Rattle.aes.proofs.WordLaws.{four}
use Rattle.aes.specs.Keys.{word, power_of_x, mask, next_word, pushed, extended}

-- the mask by its three cases
module _ (nk i : ℕ) (w : Bytes) where
  pub mask_first : eqb (i % nk) 0 ≡ true → bit_xor (sbox (get_or w 1 0)) (power_of_x (i / nk - 1)) ∷ sbox (get_or w 2 0) ∷ sbox (get_or w 3 0) ∷ sbox (get_or w 0 0) ∷ [] ≡ word (mask nk i w)
  unfolding mask
  mask_first e = rw e (four refl (sym (xor_zero_r (sbox (get_or w 2 0)))) (sym (xor_zero_r (sbox (get_or w 3 0)))) (sym (xor_zero_r (sbox (get_or w 0 0)))))

  pub mask_subbed : eqb (i % nk) 0 ≡ false → (ltb 6 nk && eqb (i % nk) 4) ≡ true → word (λ j. sbox (get_or w j 0)) ≡ word (mask nk i w)
  unfolding mask
  mask_subbed e f = rw (e, f)

  pub mask-plain : eqb (i % nk) 0 ≡ false → (ltb 6 nk && eqb (i % nk) 4) ≡ false → word (λ j. get_or w j 0) ≡ word (mask nk i w)
  unfolding mask
  mask-plain e f = rw (e, f)

-- word i needs only the words before it
pub next_word-front : (nk i : ℕ) (w : List Bytes) → 0 < nk → nk ≤ i → next_word nk i w ≡ next_word nk i (take i w)
unfolding next_word
next_word-front nk i w p h =
    let a : get_or (take i w) (i - nk) [] ≡ get_or w (i - nk) [] = get_or-take i w (i - nk) [] (omega arith) in
    let b : get_or (take i w) (i - 1) [] ≡ get_or w (i - 1) [] = get_or-take i w (i - 1) [] (omega arith) in
    ap₂ (λ (u v : Bytes). word (λ j. bit_xor (get_or u j 0) (mask nk i v j))) (sym a) (sym b)

pub extended_none : (nk i : ℕ) (ws : List Bytes) → i ≡ nk → ws ≡ extended nk (i - nk) ws
unfolding extended
extended_none nk i ws e = let z : i - nk ≡ 0 = omega arith in sym (ap (λ (n : ℕ). extended nk n ws) z)

extended-suc : (nk i : ℕ) (ws : List Bytes) → nk ≤ i → extended nk (i + 1 - nk) ws ≡ pushed nk i (extended nk (i - nk) ws)
unfolding extended
extended-suc nk i ws h =
    let e : i + 1 - nk ≡ suc (i - nk) = omega arith in
    let f : nk + (i - nk) ≡ i = omega arith in
    ap (λ (n : ℕ). extended nk n ws) e ∙ ap (λ (k : ℕ). pushed nk k (extended nk (i - nk) ws)) f

pub extended_more : (nk i : ℕ) (w ws : List Bytes) (x : Bytes) → 0 < nk → nk ≤ i → i < length w → x ≡ next_word nk i w
    → take i w ≡ extended nk (i - nk) ws → take (i + 1) (set w i x) ≡ extended nk (i + 1 - nk) ws
extended_more nk i w ws x p h l e inv =
    take_more_set w i x l
    ∙ ap (λ (y : Bytes). take i w ++ y ∷ []) (e ∙ next_word-front nk i w p h)
    ∙ ap (pushed nk i) inv
    ∙ sym (extended-suc nk i ws h)

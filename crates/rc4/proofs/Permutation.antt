-- The table stays a rearrangement of the numbers from 0 to 255.
use Rattle.std.proofs.Common.{◌≡◌, ℕ, zero, suc, ◌<◌, ◌≤◌, List, [], ◌∷◌, length, ◌∙◌, arith}
use Rattle.std.specs.List.Sorted.{IsPermutation}
use Rattle.std.proofs.lemmas.List.Sorted.{IsPermutation-refl, IsPermutation-trans, IsPermutation-swap, length_permutation}
use Rattle.std.proofs.lemmas.List.Edits.{swap_is}
use Rattle.std.proofs.lemmas.List.FromFn.{length-range_with_len}
use Rattle.rc4.specs.declared.Rc4.{Rc4}
use Rattle.rc4.specs.Rc4.{swapped, identity, moved, rounds, keyed, next, next_a, next_b, after, HoldsEachOnce}

length-table : (s : List ℕ) → IsPermutation identity s → length s ≡ 256
unfolding identity
length-table s h = length_permutation identity s h ∙ length-range_with_len 0 256

swapped_rearranged : (s : List ℕ) (i j : ℕ) → i < 256 → j < 256 → IsPermutation identity s → IsPermutation identity (swapped s i j)
swapped_rearranged s i j hi hj h =
    let len = length-table s h in
    let a : i < length s = omega arith in
    let b : j < length s = omega arith in
    IsPermutation-trans identity s (swapped s i j) h (IsPermutation-swap s (swapped s i j) i j a b (swap_is s i j 0 a b))

rounds_rearranged : (key : List ℕ) (n : ℕ) → n ≤ 256 → IsPermutation identity (rounds key n).table
unfolding rounds
rounds_rearranged key zero h = IsPermutation-refl identity
rounds_rearranged key (suc n) h =
    swapped_rearranged (rounds key n).table n (moved key n (rounds key n)) (omega arith) (omega arith) (rounds_rearranged key n (omega arith))

after_rearranged : (c : Rc4) (bytes : List ℕ) → IsPermutation identity c.s → IsPermutation identity (after c bytes).s
unfolding next
after_rearranged c [] h = h
after_rearranged c (x ∷ xs) h = after_rearranged (next c) xs (swapped_rearranged c.s (next_a c) (next_b c) (omega arith) (omega arith) h)

pub holds : HoldsEachOnce
unfolding keyed
holds key bytes = after_rearranged (keyed key) bytes (rounds_rearranged key 256 (omega arith))

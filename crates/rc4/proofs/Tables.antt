-- Tables: what an exchange leaves at its two places, and the schedule's rounds one by one.
use Rattle.std.proofs.Common.{◌≡◌, ℕ, ◌+◌, ◌%◌, ◌<◌, List, length, get_or, set, refl, ap, ◌∙◌, inl, inr, add-one, arith, length-set, get_or-set_other, get_or-set_same}
use Rattle.std.proofs.lemmas.Bool.{cases_eq}
use Rattle.rc4.specs.declared.Rc4.{Rc4}
use Rattle.rc4.specs.Rc4.{swapped, next, next_a, next_b, key_byte, round, rounds}

pub swapped_second : (s : List ℕ) (a b : ℕ) → b < length s → get_or (swapped s a b) b 0 ≡ get_or s a 0
swapped_second s a b h = get_or-set_same (set s a (get_or s b 0)) b (get_or s a 0) 0 (simp length-set h)

pub swapped_first : (s : List ℕ) (a b : ℕ) → a < length s → b < length s → get_or (swapped s a b) a 0 ≡ get_or s b 0
swapped_first s a b h k =
    elim (cases_eq a b) [
      | inl e ↦ rw e (swapped_second s b b k)
      | inr ne ↦ get_or-set_other (set s a (get_or s b 0)) b a (get_or s a 0) 0 ne ∙ get_or-set_same s a (get_or s b 0) 0 h
    ]

-- the generator reads its key byte at the sum of the two entries that it has exchanged
pub key_byte-next : (c : Rc4) → length c.s ≡ 256 → get_or (swapped c.s (next_a c) (next_b c)) ((get_or c.s (next_a c) 0 + get_or c.s (next_b c) 0) % 256) 0 ≡ key_byte (next c)
unfolding next key_byte
key_byte-next c len =
    let s = c.s in
    let a = next_a c in
    let b = next_b c in
    let ha : next_a c < length c.s = omega arith in
    let hb : next_b c < length c.s = omega arith in
    let first = swapped_first c.s (next_a c) (next_b c) ha hb in
    let second = swapped_second c.s (next_a c) (next_b c) hb in
    let same : get_or c.s (next_a c) 0 + get_or c.s (next_b c) 0 ≡ get_or (swapped c.s (next_a c) (next_b c)) (next_a c) 0 + get_or (swapped c.s (next_a c) (next_b c)) (next_b c) 0 = omega (arith, first, second) in
    ap (λ n. get_or (swapped c.s (next_a c) (next_b c)) (n % 256) 0) same

pub rounds_more : (key : List ℕ) (n : ℕ) → rounds key (n + 1) ≡ round key n (rounds key n)
unfolding rounds
rounds_more key n = rw add-one refl

-- one round, from its parts as the code has them
pub rounds-step : (key s t : List ℕ) (i j : ℕ) →
    s ≡ (rounds key i).table → j ≡ (rounds key i).index →
    t ≡ swapped s i ((((j + get_or s i 0) % 256) + get_or key (i % length key) 0) % 256) →
    (t ≡ (rounds key (i + 1)).table) × ((((j + get_or s i 0) % 256) + get_or key (i % length key) 0) % 256 ≡ (rounds key (i + 1)).index)
rounds-step key s t i j hs hj ht =
    let index : (((j + get_or s i 0) % 256) + get_or key (i % length key) 0) % 256 ≡ (j + get_or s i 0 + get_or key (i % length key) 0) % 256 = omega arith in
    rw (rounds_more key i, ← hs, ← hj) (ht ∙ ap (λ n. swapped s i n) index, index)

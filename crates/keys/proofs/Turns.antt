-- The repeated digests as a fold, one encryption more, and an encryption into a buffer of its own.
use Rattle.std.proofs.Common.{◌≡◌, ℕ, zero, suc, ◌+◌, ◌-◌, ◌≤◌, [], ◌++◌, fold, length, take, drop, Some, None, Option, sym, refl, ap, ◌∙◌, add-one, add-zero, zero-add, arith}
use Rattle.std.specs.List.{range_with_len}
use Rattle.std.proofs.lemmas.List.{drop_all, append-nil}
use Rattle.byte_strings.specs.Bytes.{Bytes}
use Rattle.md5_digest.specs.Md5.{md5}
use Rattle.rc4.specs.declared.Rc4.{Rc4}
use Rattle.rc4.specs.Rc4.{rc4, stream, Applied}
use Rattle.rc4.proofs.Streams.{length-stream}
use Rattle.keys.specs.File.{again}
use Rattle.keys.specs.User.{key_xor, repeated}

-- the repeated digests as a fold over their numbers
fold-again : (n : ℕ) (x : Bytes) (m k : ℕ) → fold (λ y i. md5 (take n y)) (again n k x) (range_with_len k m) ≡ again n (k + m) x
unfolding again
fold-again n x zero k = ap (λ j. again n j x) (sym (add-zero k))
fold-again n x (suc m) k =
    let one : md5 (take n (again n k x)) ≡ again n (k + 1) x = rw add-one refl in
    let rest : k + 1 + m ≡ k + suc m = omega arith in
    ap (λ y. fold (λ y i. md5 (take n y)) y (range_with_len (k + 1) m)) one ∙ fold-again n x m (k + 1) ∙ ap (λ j. again n j x) rest

pub fold_is_again : (n m : ℕ) (x : Bytes) → fold (λ y i. md5 (take n y)) x (range_with_len 0 m) ≡ again n m x
unfolding again
fold_is_again n m x = fold-again n x m 0 ∙ ap (λ j. again n j x) (zero-add m)

-- turn i
pub repeated_more : (key : Bytes) (i : ℕ) (x : Bytes) → 1 ≤ i → rc4 (key_xor i key) (repeated key (i - 1) x) ≡ repeated key (i + 1 - 1) x
unfolding repeated
repeated_more key i x h =
    let before : i - 1 + 1 ≡ i = omega arith in
    let after : suc (i - 1) ≡ i + 1 - 1 = omega arith in
    ap (λ j. rc4 (key_xor j key) (repeated key (i - 1) x)) (sym before) ∙ ap (λ j. repeated key j x) after

-- a buffer as long as the input is the cipher's output
pub encrypted : (c c' : Rc4) (x old new : Bytes) (r : Option ℕ) → length old ≡ length x → Applied c x old c' new r → new ≡ stream c x
encrypted c c' x old new None same a = let z : ⊥ = omega (arith, a.0) in absurd z
encrypted c c' x old new (Some n) same a =
    let long = length-stream c x in
    let none : drop (length (stream c x)) old ≡ [] = drop_all (length (stream c x)) old (omega arith) in
    a.3 ∙ ap (λ rest. stream c x ++ rest) none ∙ append-nil (stream c x)

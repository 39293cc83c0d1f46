-- The laws of the stream.
use Rattle.std.proofs.Common.{◌≡◌, ℕ, suc, List, [], ◌∷◌, length, refl, ap, ◌∙◌, ap₂}
use lib.Bits.{bit_xor, xor_assoc, xor_self, xor_zero_r}
use Rattle.rc4.specs.declared.Rc4.{Rc4}
use Rattle.rc4.specs.Rc4.{next, key_byte, stream, keyed, Joins, Undoes}

pub joins : Joins
joins c [] r = (refl, refl)
joins c (x ∷ p) r =
    let rest = joins (next c) p r in
    (ap (λ ys. bit_xor x (key_byte (next c)) ∷ ys) rest.0, rest.1)

xor_twice : (x k : ℕ) → bit_xor (bit_xor x k) k ≡ x
xor_twice x k = xor_assoc x k k ∙ ap (bit_xor x) (xor_self k) ∙ xor_zero_r x

stream-twice : (c : Rc4) (bytes : List ℕ) → stream c (stream c bytes) ≡ bytes
stream-twice c [] = refl
stream-twice c (x ∷ xs) = ap₂ (λ (y : ℕ) (ys : List ℕ). y ∷ ys) (xor_twice x (key_byte (next c))) (stream-twice (next c) xs)

pub undoes : Undoes
undoes key bytes = stream-twice (keyed key) bytes

pub length-stream : (c : Rc4) (xs : List ℕ) → length (stream c xs) ≡ length xs
length-stream c [] = refl
length-stream c (x ∷ xs) = ap suc (length-stream (next c) xs)

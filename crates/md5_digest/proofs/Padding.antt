-- Numbers as bytes, and the padding.
use Rattle.std.proofs.Common.{◌≡◌, ℕ, zero, suc, ◌+◌, ◌-◌, ◌*◌, ◌/◌, ◌%◌, ◌^◌, List, [], ◌∷◌, ◌++◌, length, replicate, sym, refl, ap, ◌∙◌, ap₂, mul_assoc, pow-suc, arith, length-append}
use native.Mathlib.Nat.{div-div-eq-div-mul}
use lib.ListN.{length-replicate}
use Rattle.md5_digest.specs.Md5.{low_bytes, padding, digest, digested, Completes, HasSixteenBytes}

-- the low bytes do not see what lies above them
pub low_bytes_same : (k a b q : ℕ) → a ≡ b + q * 256 ^ k → low_bytes k a ≡ low_bytes k b
low_bytes_same zero a b q e = refl
low_bytes_same (suc k) a b q e =
    let split : a ≡ b + q * 256 ^ k * 256 = e ∙ ap (λ n. b + q * n) (pow-suc 256 k) ∙ ap (λ n. b + n) (sym (mul_assoc q (256 ^ k) 256)) in
    let low : a % 256 ≡ b % 256 = omega arith in
    let high : a / 256 ≡ b / 256 + q * 256 ^ k = omega arith in
    ap₂ (λ (x : ℕ) (xs : List ℕ). x ∷ xs) low (low_bytes_same k (a / 256) (b / 256) q high)

-- `to_le_bytes`, at four bytes and at eight
pub low_bytes_4 : (n : ℕ) → n % 256 ∷ n / 256 % 256 ∷ n / 65536 % 256 ∷ n / 16777216 % 256 ∷ [] ≡ low_bytes 4 n
low_bytes_4 n = simp div-div-eq-div-mul

pub low_bytes_8 : (n : ℕ) → n % 256 ∷ n / 256 % 256 ∷ n / 65536 % 256 ∷ n / 16777216 % 256 ∷ n / 4294967296 % 256 ∷ n / 1099511627776 % 256 ∷ n / 281474976710656 % 256 ∷ n / 72057594037927936 % 256 ∷ [] ≡ low_bytes 8 n
low_bytes_8 n = simp div-div-eq-div-mul

-- the padding sees the count modulo 2^64 only
pub padding_mod : (x y : ℕ) → padding (x % 2 ^ 64 + y) ≡ padding (x + y)
unfolding padding
padding_mod x y =
    let zeros : (119 - (x % 2 ^ 64 + y) % 64) % 64 ≡ (119 - (x + y) % 64) % 64 = omega arith in
    let bits : 8 * (x + y) ≡ 8 * (x % 2 ^ 64 + y) + (8 * (x / 2 ^ 64)) * 256 ^ 8 = omega arith in
    ap₂ (λ n bs. 128 ∷ (replicate n 0 ++ bs)) zeros (sym (low_bytes_same 8 (8 * (x + y)) (8 * (x % 2 ^ 64 + y)) (8 * (x / 2 ^ 64)) bits))

length-padding : (n : ℕ) → length (padding n) ≡ (119 - n % 64) % 64 + 9
unfolding padding
length-padding n = simp (length-append, length-replicate) (omega arith)

pub completes : Completes
completes n = let long = length-padding n in (omega arith, omega arith)

pub sixteen : HasSixteenBytes
unfolding digested digest
sixteen message = refl

-- The field GF(2^8) of FIPS 197: a byte is a polynomial over GF(2), bit i the coefficient of x^i, reduced by x^8 + x^4 + x^3 + x + 1.
use Rattle.std.specs.Prelude.{ℕ, zero, suc, ◌*◌, ◌/◌, ◌%◌, bit_xor}

-- times x: 283 is the modulus, taken away where x^8 appears
abbrev pub xtime : ℕ → ℕ
xtime b = bit_xor (b * 2) (b / 128 * 283)

-- the sum of b * x^i over the lowest n bits i that a has
abbrev pub product_of : ℕ → ℕ → ℕ → ℕ
product_of zero a b = 0
product_of (suc n) a b = bit_xor (a % 2 * b) (product_of n (a / 2) (xtime b))

unfoldable pub product : ℕ → ℕ → ℕ
product a b = product_of 8 a b

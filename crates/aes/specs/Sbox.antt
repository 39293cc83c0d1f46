-- The S-box of FIPS 197 and its inverse.
use Rattle.std.specs.Prelude.{ℕ, zero, suc, ◌+◌, ◌-◌, ◌*◌, ◌/◌, ◌%◌, ◌^◌, cond, ◌==◌, bit_xor}
use Rattle.aes.specs.Field.{product}

-- the largest c up to n with b * c = 1, and 0 where there is none
abbrev pub inverse_up_to : ℕ → ℕ → ℕ
unfolding product
inverse_up_to zero b = 0
inverse_up_to (suc n) b = cond (product b (suc n) == 1) (suc n) (inverse_up_to n b)

-- the multiplicative inverse; that of 0 is 0
unfoldable pub inverse : ℕ → ℕ
inverse b = inverse_up_to 255 b

-- the bits of a byte moved up by k places, around
abbrev pub rotated : ℕ → ℕ → ℕ
rotated b k = b * 2 ^ k % 256 + b / 2 ^ (8 - k)

-- bit i becomes the sum of the bits i, i + 4, i + 5, i + 6 and i + 7, modulo 8, and of bit i of 0x63
abbrev pub affine : ℕ → ℕ
affine b = bit_xor b (bit_xor (rotated b 1) (bit_xor (rotated b 2) (bit_xor (rotated b 3) (bit_xor (rotated b 4) 0x63))))

unfoldable pub sbox : ℕ → ℕ
sbox b = affine (inverse b)

-- undoes the affine map: bit i becomes the sum of the bits i + 2, i + 5 and i + 7, modulo 8, and of bit i of 0x05
abbrev pub affine_back : ℕ → ℕ
affine_back b = bit_xor (rotated b 1) (bit_xor (rotated b 3) (bit_xor (rotated b 6) 0x05))

unfoldable pub inv_sbox : ℕ → ℕ
inv_sbox b = inverse (affine_back b)

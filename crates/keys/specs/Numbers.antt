-- Signed numbers as bytes.
use Rattle.std.specs.Prelude.{ℕ, ◌-◌, ◌%◌, ◌^◌, ℤ, pos, negsuc}
use Rattle.byte_strings.specs.Bytes.{Bytes}
use Rattle.md5_digest.specs.Md5.{low_bytes}

-- the remainder of z by m, from 0 to m - 1; negsuc n is -(n + 1)
abbrev pub modulo : ℕ → ℤ → ℕ
modulo m (pos n) = n % m
modulo m (negsuc n) = m - 1 - n % m

-- the k low-order bytes of z, low-order byte first
abbrev pub low_bytes_of : ℕ → ℤ → Bytes
low_bytes_of k z = low_bytes k (modulo (256 ^ k) z)

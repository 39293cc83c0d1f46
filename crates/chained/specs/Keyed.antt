-- Block ciphers under each of their keys.
use Rattle.std.specs.Prelude.{ℕ, ◌/◌}
use Rattle.byte_strings.specs.Bytes.{Bytes}
use Rattle.aes.specs.BlockCipher.{Permutation}
use Rattle.aes.specs.Cipher.{aes}

-- how many bytes a key has, and the two maps of blocks under a key
pub record Family : Type 0 where
  pub size : ℕ
  pub under : Bytes → Permutation

-- AES with keys of that many bytes
abbrev pub aes_family : ℕ → Family
aes_family bytes = record { size = bytes; under = aes (bytes / 4) }

abbrev pub aes_128 : Family
aes_128 = aes_family 16

abbrev pub aes_256 : Family
aes_256 = aes_family 32

-- AES under any key of bytes is a block cipher.
use Rattle.std.proofs.Common.{ℕ, ◌+◌, ◌-◌, ◌*◌}
use Rattle.byte_strings.specs.Bytes.{Bytes, Octets}
use Rattle.aes.specs.BlockCipher.{Invertible}
use Rattle.aes.specs.Cipher.{aes, aes128, aes256}
use Rattle.aes.specs.Keys.{key_expansion}
use Rattle.aes.specs.CipherLaws.{rijndael_invertible}
use Rattle.aes.proofs.KeyLaws.{expanded_bytes}

pub aes_invertible : (nk : ℕ) (key : Bytes) → Octets key → Invertible (aes nk key)
aes_invertible nk key h = rijndael_invertible (key_expansion nk (nk + 6) key) (expanded_bytes nk ((nk + 6) * 4 + 4 - nk) key h) (nk + 6)

pub aes128_invertible : (key : Bytes) → Octets key → Invertible (aes128 key)
aes128_invertible = aes_invertible 4

pub aes256_invertible : (key : Bytes) → Octets key → Invertible (aes256 key)
aes256_invertible = aes_invertible 8

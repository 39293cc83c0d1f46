-- What a digest under way means: a map from the bytes that are still to come to the digest of all bytes.
use Rattle.std.specs.Prelude.{ℕ, ◌+◌, ◌%◌, List, ◌++◌, length, take}
use Rattle.md5_digest.specs.declared.Registers.{Registers}
use Rattle.md5_digest.specs.declared.Md5.{Md5}
use Rattle.md5_digest.specs.Md5.{absorbed, padding, digest}

-- the bytes of the block that is not complete yet
abbrev pub held : Md5 → List ℕ
held m = take (m.count % 64) m.buffer

-- the registers once these bytes have come too
unfoldable pub absorbing : Md5 → List ℕ → Registers
absorbing m more = absorbed m.chain (held m ++ more)

-- the digest once the rest has come
unfoldable pub digest_after : Md5 → List ℕ → List ℕ
digest_after m rest = digest (absorbing m (rest ++ padding (m.count + length rest)))

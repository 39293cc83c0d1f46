-- Keys of 1 to 16 bytes.
use Rattle.std.specs.Prelude.{take}
use Rattle.byte_strings.specs.Bytes.{Bytes}
use Rattle.keys.specs.declared.key.Key.{Key}

-- the bytes of a key
abbrev pub key_of : Key → Bytes
key_of k = take k.size.n k.bytes

-- The key of an object: Algorithm 1.
use Rattle.std.specs.Prelude.{◌+◌, min, Bool, cond, [], ◌++◌, length, take, ℤ, codes}
use Rattle.byte_strings.specs.Bytes.{Bytes}
use Rattle.md5_digest.specs.Md5.{md5}
use Rattle.keys.specs.Numbers.{low_bytes_of}

-- what Algorithm 1 appends to the file key: the low 3 bytes of the object number and the low 2 of the generation
abbrev pub object_bytes : ℤ → ℤ → Bytes
object_bytes object generation = low_bytes_of 3 object ++ low_bytes_of 2 generation

-- the salt of AES
abbrev pub salt : Bool → Bytes
salt salted = cond salted (codes "sAlT") []

-- the key of an object, from the file key; salted for AES
unfoldable pub object_key : Bytes → ℤ → ℤ → Bool → Bytes
object_key key object generation salted =
    take (min 16 (length key + 5)) (md5 (key ++ (object_bytes object generation ++ salt salted)))

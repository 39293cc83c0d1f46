-- The key that a method takes, from the file key and the object's numbers.
use Rattle.std.specs.Prelude.{true, false}
use Rattle.byte_strings.specs.Bytes.{Bytes}
use Rattle.keys.specs.Key.{key_of}
use Rattle.keys.specs.Object.{object_key}
use Rattle.methods.specs.declared.key_kind.KeyKind.{KeyKind}
use Rattle.methods.specs.declared.key_kind.KeyKind.TheVariants as kind
use Rattle.reader.specs.declared.key.TakenKey.{TakenKey}
use Rattle.reader.specs.declared.key.TakenKey.TheVariants.{Own, File}
use Rattle.reader.specs.declared.object.Object.{Object}

-- the file key, or that of Algorithm 1, salted or not
abbrev pub key_for : KeyKind → Bytes → Object → Bytes
key_for kind.File key o = key
key_for kind.Object key o = object_key key o.number o.generation false
key_for kind.Salted key o = object_key key o.number o.generation true

-- the bytes of the key that was taken
abbrev pub key_bytes : TakenKey → Bytes
key_bytes (Own key) = key_of key
key_bytes (File key) = key.now

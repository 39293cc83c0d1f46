-- What the tags stand for.
use Rattle.methods.specs.Method.{Scheme}
use Rattle.methods.specs.Identity.{copy_scheme}
use Rattle.methods.specs.Rc4Method.{rc4_scheme}
use Rattle.methods.specs.declared.key_kind.KeyKind.TheVariants.{Salted, File}
use Rattle.chained.specs.Keyed.{aes_128, aes_256}
use Rattle.chained.specs.ChainedMethod.{chained_scheme}
use Rattle.tagged.specs.declared.tag.DecryptorTag.{DecryptorTag}
use Rattle.tagged.specs.declared.tag.DecryptorTag.TheVariants.{None, Rc4, Aes128, Aes256}

-- AES-128 takes the salted object key, AES-256 the file key.
abbrev pub tag_scheme : DecryptorTag → Scheme
tag_scheme None = copy_scheme
tag_scheme Rc4 = rc4_scheme
tag_scheme Aes128 = chained_scheme Salted aes_128
tag_scheme Aes256 = chained_scheme File aes_256

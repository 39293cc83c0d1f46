-- The methods that tags stand for are lawful.
use Rattle.methods.specs.Method.{Lawful}
use Rattle.methods.specs.declared.key_kind.KeyKind.TheVariants.{Salted, File}
use Rattle.methods.specs.Laws.{copy_lawful, rc4_lawful}
use Rattle.chained.specs.Keyed.{aes_128, aes_256}
use Rattle.chained.specs.Laws.{chained_lawful}
use Rattle.aes.proofs.AesLaws.{aes128_invertible, aes256_invertible}
use Rattle.tagged.specs.declared.tag.DecryptorTag.{DecryptorTag}
use Rattle.tagged.specs.declared.tag.DecryptorTag.TheVariants.{None, Rc4, Aes128, Aes256}
use Rattle.tagged.specs.Tag.{tag_scheme}

pub tag_lawful : (t : DecryptorTag) → Lawful (tag_scheme t)
tag_lawful None = copy_lawful
tag_lawful Rc4 = rc4_lawful
tag_lawful Aes128 = chained_lawful Salted aes_128 (λ k sized octets. aes128_invertible k octets)
tag_lawful Aes256 = chained_lawful File aes_256 (λ k sized octets. aes256_invertible k octets)

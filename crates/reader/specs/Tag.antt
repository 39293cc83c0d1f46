-- What a file's tag stands for; none is unresolved.
use Rattle.std.specs.Prelude.{Some, None as Nothing, Option}
use Rattle.aes.specs.declared.Aes.{Aes}
use Rattle.aes.specs.Cipher.{rijndael}
use Rattle.filters.specs.declared.tag.Tag.{Tag}
use Rattle.filters.specs.declared.tag.Tag.TheVariants.{None, V2, AESV2, AESV3}
use Rattle.methods.specs.declared.identity.IdentityState.{IdentityState}
use Rattle.methods.specs.declared.rc4_method.Rc4State.{Rc4State}
use Rattle.methods.specs.Running.{Residual}
use Rattle.methods.specs.Method.{Scheme}
use Rattle.methods.specs.Identity.{copying}
use Rattle.methods.specs.Rc4Method.{streaming}
use Rattle.chained.specs.declared.state.ChainedState.{ChainedState}
use Rattle.chained.specs.State.{meaning}
use Rattle.tagged.specs.declared.state.OneOf.{OneOf}
use Rattle.tagged.specs.State.{one_means}
use Rattle.tagged.specs.declared.tag.DecryptorTag.{DecryptorTag}
use Rattle.tagged.specs.declared.tag.DecryptorTag.TheVariants as method
use Rattle.tagged.specs.Tag.{tag_scheme}
use Rattle.reader.specs.declared.output.Mark.{Mark}
use Rattle.reader.specs.declared.output.Mark.TheVariants.{Restored, Passed}

-- an unresolved tag copies
abbrev pub method_for : Option Tag → DecryptorTag
method_for Nothing = method.None
method_for (Some None) = method.None
method_for (Some V2) = method.Rc4
method_for (Some AESV2) = method.Aes128
method_for (Some AESV3) = method.Aes256

abbrev pub scheme_for : Option Tag → Scheme
scheme_for t = tag_scheme (method_for t)

-- and what it copies is passed on
abbrev pub mark_for : Option Tag → Mark
mark_for Nothing = Passed
mark_for (Some t) = Restored

-- what the running states of the four methods mean
abbrev pub tag_means : OneOf IdentityState Rc4State (ChainedState (Aes 16 44 10)) (ChainedState (Aes 32 60 14)) → Residual
tag_means = one_means (λ _. copying) (λ s. streaming s.cipher) (meaning (λ c. rijndael 10 c.schedule.words)) (meaning (λ c. rijndael 14 c.schedule.words))

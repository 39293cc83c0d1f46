-- The state of one of four methods means what that method's state means.
use Rattle.methods.specs.Running.{Residual}
use Rattle.tagged.specs.declared.state.OneOf.{OneOf}
use Rattle.tagged.specs.declared.state.OneOf.TheVariants.{None, Rc4, Aes128, Aes256}

abbrev pub one_means : {N R S L : Type 0} → (N → Residual) → (R → Residual) → (S → Residual) → (L → Residual) → OneOf N R S L → Residual
one_means n r s l (None x) = n x
one_means n r s l (Rc4 x) = r x
one_means n r s l (Aes128 x) = s x
one_means n r s l (Aes256 x) = l x

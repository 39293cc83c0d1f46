-- The table is the one of the definition.
use Rattle.std.proofs.Common.{refl}
use Rattle.keys.specs.Password.{password_padding}
use Rattle.keys.proofs.password.password_padding.Goals as goal

pub returns : goal.returns
unfolding password_padding
returns c = refl

-- Each example computes.
use Rattle.std.proofs.Common.{refl}
use Rattle.cbc.specs.Pad.{padded_by, padding_of}
use Rattle.keys.specs.Password.{password_padding, padded}
use Rattle.usage.specs.Examples.{Hold}
use Rattle.usage.proofs.examples.examples_hold.Goals as goal

pub returns : goal.returns
unfolding Hold padded password_padding padded_by padding_of
returns c = (refl, (refl, (refl, (refl, (refl, (refl, (refl, (refl, tt))))))))

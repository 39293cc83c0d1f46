-- The laws of U.
use Rattle.keys.proofs.KeyLaws as law
use Rattle.keys.proofs.user.laws.Goals as goal

pub returns : goal.returns
returns c = record { long = law.long; agree = law.agree }

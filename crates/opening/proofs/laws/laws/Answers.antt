-- The laws, each by its lemma.
use Rattle.opening.proofs.Accepting.{accepted, long}
use Rattle.opening.proofs.SettingUp.{set, opens}
use Rattle.opening.proofs.Narrowing.{narrower}
use Rattle.opening.proofs.laws.laws.Goals as goal

pub returns : goal.returns
returns c = record { accepted = accepted; set = set; opens = opens; long = long; narrower = narrower }

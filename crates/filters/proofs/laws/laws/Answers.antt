-- The laws, each by its lemma.
use Rattle.filters.proofs.Rule.{sound, fault}
use Rattle.filters.proofs.Names.{unlisted, last}
use Rattle.filters.proofs.Narrower.{narrower}
use Rattle.filters.proofs.laws.laws.Goals as goal

pub returns : goal.returns
returns c = record { sound = sound; fault = fault; unlisted = unlisted; last = last; narrower = narrower }

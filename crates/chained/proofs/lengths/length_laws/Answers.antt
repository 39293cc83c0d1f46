-- The two laws of what is out.
use Rattle.chained.proofs.ByLength.{by_length, four_pieces}
use Rattle.chained.proofs.lengths.length_laws.Goals as goal

pub returns : goal.returns
returns c = record { law = by_length; pieces = four_pieces }

-- The table holds the powers of x.
use Rattle.std.proofs.Common.{zero-add, rules}
use Rattle.std.proofs.lemmas.List.FromFn.{get_or-map-range_with_len}
use Rattle.aes.specs.Keys.{power_of_x}
use Rattle.aes.proofs.keys.round_constant.Goals as goal

pub returns : goal.returns
unfolding power_of_x
returns c = get_or-map-range_with_len power_of_x 0 10 c.args.n c.args.n 0 (search rules) (zero-add c.args.n)

-- Nothing has been taken in yet.
use Rattle.chained.proofs.state.ChainedState.new.Goals as goal

pub returns : goal.returns
returns g c = c.new.ensures (g.C.BlockCipher.permutation c.args.cipher)

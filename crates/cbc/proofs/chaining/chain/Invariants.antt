-- What has been written and what is left make the whole.
use Rattle.std.proofs.Common.{◌+◌, ◌/◌, length}
use Rattle.cbc.specs.Chaining.{chained}
use Rattle.cbc.specs.Pad.{padded}
use Rattle.cbc.proofs.Walking.{Walking}
use Rattle.cbc.proofs.chaining.chain.Given as goal

abbrev pub invariant-loop-n : goal.invariant-loop-n
invariant-loop-n g l = Walking (chained (g.C.BlockCipher.permutation l.cipher).forward) (length l.data / 16 + 1) l.iv (padded l.data) l.initial.out l.n l.before l.out

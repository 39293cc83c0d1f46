-- What has been written and what is left make the whole.
use Rattle.std.proofs.Common.{◌/◌, length}
use Rattle.cbc.specs.Chaining.{unchained}
use Rattle.cbc.proofs.Walking.{Walking}
use Rattle.cbc.proofs.chaining.unchain.Given as goal

abbrev pub invariant-loop-n : goal.invariant-loop-n
invariant-loop-n g l = Walking (unchained (g.C.BlockCipher.permutation l.cipher).back) (length l.data / 16) l.iv l.data l.initial.out l.n l.before l.out

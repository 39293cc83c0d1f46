-- What was written and what is left give the whole.
use Rattle.std.proofs.Common.{◌≡◌, ◌-◌, length, drop}
use Rattle.chained.specs.Steps.{arrived, underway}
use Rattle.chained.specs.TakingIn.{FedUpTo}
use Rattle.chained.proofs.progress.Progress.take_in.Given as goal

abbrev pub invariant-loop-left : goal.invariant-loop-left
invariant-loop-left g l =
    let p = g.C.BlockCipher.permutation l.cipher in
    let at = length l.piece - length l.left in
    (l.left ≡ drop at l.piece) × FedUpTo p (underway p l.initial.self) l.piece l.initial.out at l.count l.self.last (arrived l.self) l.out

abbrev pub decreases-loop-left : goal.decreases-loop-left
decreases-loop-left g l = length l.left

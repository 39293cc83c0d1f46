-- The table and the index after so many rounds.
use Rattle.std.proofs.Common.{◌≡◌, length}
use Rattle.rc4.specs.Rc4.{rounds}
use Rattle.rc4.proofs.schedule.Given as goal

abbrev pub invariant-loop-i : goal.invariant-loop-i
invariant-loop-i l = (length l.s ≡ 256) × (l.s ≡ (rounds l.key l.i).table) × (l.j ≡ (rounds l.key l.i).index)

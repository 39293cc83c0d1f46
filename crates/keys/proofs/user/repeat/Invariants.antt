-- So many turns so far.
use Rattle.std.proofs.Common.{◌≡◌, ◌-◌}
use Rattle.keys.specs.Key.{key_of}
use Rattle.keys.specs.User.{repeated}
use Rattle.keys.proofs.user.repeat.Given as goal

abbrev pub invariant-loop-i : goal.invariant-loop-i
invariant-loop-i l = l.x ≡ repeated (key_of l.key) (l.i - 1) l.digest

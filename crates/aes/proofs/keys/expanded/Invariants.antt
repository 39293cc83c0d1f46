-- The words up to the counter are the schedule's.
use Rattle.std.proofs.Common.{◌≡◌, ◌-◌, length, take}
use Rattle.aes.specs.Keys.{extended, key_words}
use Rattle.aes.proofs.keys.expanded.Given as goal

abbrev pub invariant-loop-i : goal.invariant-loop-i
invariant-loop-i g l = (length l.w ≡ g.row.N) × (take l.i l.w ≡ extended l.nk (l.i - l.nk) (key_words l.nk l.key))

-- The search from the next entry on answers what the whole search answers.
use Rattle.std.proofs.Common.{◌≡◌, drop}
use Rattle.filters.specs.Table.{first_bad}
use Rattle.filters.proofs.table.first_bad.Given as goal

abbrev pub invariant-loop-i : goal.invariant-loop-i
invariant-loop-i l = first_bad l.size l.i l.end (drop l.i l.entries) ≡ first_bad l.size 0 0 l.entries

-- The scheduled table in a cipher that has not stepped yet.
use Rattle.std.proofs.Common.{ap}
use Rattle.byte_strings.specs.Bytes.{Bytes}
use Rattle.rc4.specs.declared.Rc4.{Rc4}
use Rattle.rc4.specs.Rc4.{keyed}
use Rattle.rc4.proofs.start.Goals as goal

with_table : Bytes → Rc4
with_table t = record { a = 0; b = 0; s = t }

pub returns : goal.returns
unfolding keyed with_table
returns c = ap with_table c.schedule.ensures

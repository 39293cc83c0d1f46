-- Each column takes its bytes from the words of the columns that they are shifted from.
use Rattle.aes.specs.State.{inv_shift_rows}
use Rattle.aes.specs.Words.{unpacked}
use Rattle.aes.proofs.direction.InverseDirection.columns.Goals as goal

pub returns : goal.returns
unfolding inv_shift_rows unpacked
returns c = rw (c.to_le_bytes-a.ensures, c.to_le_bytes-b.ensures, c.to_le_bytes-c.ensures, c.to_le_bytes-d.ensures)

-- The bytes that are written.
use Rattle.std.proofs.Common.{length}
use Rattle.cbc.proofs.Parts.{placed}
use Rattle.cbc.proofs.blocks.put.Goals as goal

pub returns : goal.returns
returns c = placed c.args.at (length c.args.bytes.now) c.args.out.now _ c.args.bytes.now c.copy_from_slice.ensures.after

-- The sum of the bytes at each place.
use lib.Bits.{bit_xor}
use Rattle.std.proofs.Common.{rules, get_or}
use Rattle.cbc.specs.Blocks.{xor_blocks}
use Rattle.cbc.proofs.Made.{made}
use Rattle.cbc.proofs.blocks.xor_blocks.Goals as goal

pub returns : goal.returns
unfolding xor_blocks
returns c = made _ (λ i. bit_xor (get_or c.args.a.now i 0) (get_or c.args.b.now i 0)) _ (λ i y q called. search rules) 16 _ c.from_fn.ensures.items 0

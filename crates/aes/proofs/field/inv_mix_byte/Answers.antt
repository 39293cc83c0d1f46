-- The tables hold the products of the definition.
use Rattle.std.proofs.Common.{ap₂, rules}
use lib.Bits.{bit_xor}
use Rattle.aes.specs.Field.{product}
use Rattle.aes.specs.Table.{rule}
use Rattle.aes.proofs.field.inv_mix_byte.Goals as goal

pub returns : goal.returns
unfolding product
returns c =
    ap₂ bit_xor (ap₂ bit_xor (rule (product 14) c.args.a (search rules)) (rule (product 11) c.args.b (search rules)))
    (ap₂ bit_xor (rule (product 13) c.args.c (search rules)) (rule (product 9) c.args.d (search rules)))

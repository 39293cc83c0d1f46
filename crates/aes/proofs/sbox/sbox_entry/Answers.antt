-- The table holds the values of the definition, which its inverse undoes.
use Rattle.std.proofs.Common.{ap, ◌∙◌, rules}
use Rattle.aes.specs.Field.{product}
use Rattle.aes.specs.Sbox.{inv_sbox}
use Rattle.aes.specs.SboxLaws.{fast_sbox, sbox_is, sbox_undone}
use Rattle.aes.specs.Table.{rule}
use Rattle.aes.proofs.sbox.sbox_entry.Goals as goal

pub returns : goal.returns
unfolding product
returns c =
    let e = rule fast_sbox c.args.b (search rules) ∙ sbox_is c.args.b (search rules) in
    record { value = e; undone = ap inv_sbox e ∙ sbox_undone c.args.b (search rules) }

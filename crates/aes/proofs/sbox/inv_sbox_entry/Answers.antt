-- The table holds the values of the definition, which its inverse undoes.
use Rattle.std.proofs.Common.{ap, ◌∙◌, rules}
use Rattle.aes.specs.Field.{product}
use Rattle.aes.specs.Sbox.{sbox}
use Rattle.aes.specs.SboxLaws.{fast_inv_sbox, inv_sbox_is, inv_sbox_undone}
use Rattle.aes.specs.Table.{rule}
use Rattle.aes.proofs.sbox.inv_sbox_entry.Goals as goal

pub returns : goal.returns
unfolding product
returns c =
    let e = rule fast_inv_sbox c.args.b (search rules) ∙ inv_sbox_is c.args.b (search rules) in
    record { value = e; undone = ap sbox e ∙ inv_sbox_undone c.args.b (search rules) }

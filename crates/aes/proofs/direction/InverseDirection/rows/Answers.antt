-- The tables hold the products of the definition.
use Rattle.std.proofs.Common.{ap, ◌∙◌}
use Rattle.aes.specs.Field.{product}
use Rattle.aes.specs.Words.{products}
use Rattle.aes.specs.SboxLaws.{fast_inv_sbox, inv_sbox_is}
use Rattle.aes.specs.Table.{rule}
use Rattle.aes.proofs.direction.InverseDirection.rows.Goals as goal

pub returns : goal.returns
unfolding products product
returns c = record {
  row_0 = λ x h. rule (λ y. products 14 9 13 11 (fast_inv_sbox y)) x h ∙ ap (products 14 9 13 11) (inv_sbox_is x h);
  row_1 = λ x h. rule (λ y. products 11 14 9 13 (fast_inv_sbox y)) x h ∙ ap (products 11 14 9 13) (inv_sbox_is x h);
  row_2 = λ x h. rule (λ y. products 13 11 14 9 (fast_inv_sbox y)) x h ∙ ap (products 13 11 14 9) (inv_sbox_is x h);
  row_3 = λ x h. rule (λ y. products 9 13 11 14 (fast_inv_sbox y)) x h ∙ ap (products 9 13 11 14) (inv_sbox_is x h);
}

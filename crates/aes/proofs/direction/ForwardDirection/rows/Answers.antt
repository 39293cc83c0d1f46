-- The tables hold the products of the definition.
use Rattle.std.proofs.Common.{ap, ◌∙◌}
use Rattle.aes.specs.Field.{product}
use Rattle.aes.specs.Words.{products}
use Rattle.aes.specs.SboxLaws.{fast_sbox, sbox_is}
use Rattle.aes.specs.Table.{rule}
use Rattle.aes.proofs.direction.ForwardDirection.rows.Goals as goal

pub returns : goal.returns
unfolding products product
returns c = record {
  row_0 = λ x h. rule (λ y. products 2 1 1 3 (fast_sbox y)) x h ∙ ap (products 2 1 1 3) (sbox_is x h);
  row_1 = λ x h. rule (λ y. products 3 2 1 1 (fast_sbox y)) x h ∙ ap (products 3 2 1 1) (sbox_is x h);
  row_2 = λ x h. rule (λ y. products 1 3 2 1 (fast_sbox y)) x h ∙ ap (products 1 3 2 1) (sbox_is x h);
  row_3 = λ x h. rule (λ y. products 1 1 3 2 (fast_sbox y)) x h ∙ ap (products 1 1 3 2) (sbox_is x h);
}

-- A block has at most 16 bytes of padding.
use Rattle.std.proofs.Common.{ℕ, ◌-◌, take, sym, ap, ◌∙◌, ap₂, arith}
use Rattle.byte_strings.specs.Bytes.{Bytes}
use Rattle.cbc.proofs.PaddingLaws.{padding_few}
use Rattle.chained.specs.Advancing.{unpadded_few}
use Rattle.chained.proofs.progress.steps.unpadded_len.Goals as goal

pub overflow_sub-result : goal.overflow_sub-result
overflow_sub-result c = omega (arith, c.padding.ensures, padding_few c.args.block.now)

pub returns : goal.returns
returns c =
    let b : Bytes = c.args.block.now in
    record {
      few = omega arith;
      long = ap (λ (k : ℕ). 16 - k) c.padding.ensures ∙ sym (unpadded_few b c.told-block);
      front = ap₂ (λ (n k : ℕ). take (n - k) c.args.block.now) (sym c.told-block) c.padding.ensures;
    }

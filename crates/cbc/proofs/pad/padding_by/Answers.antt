-- What the last byte tells is borne out by the bytes before it, or not.
use Rattle.std.proofs.Common.{true, false, sym, ap, ◌∙◌, ⊎_elim, arith, rules}
use Rattle.cbc.specs.Pad.{all_are}
use Rattle.cbc.proofs.PaddingLaws.{pad-zero, pad_large, pad_by}
use Rattle.cbc.proofs.pad.padding_by.Goals as goal

pub returns-then-k-eq0 : goal.returns-then-k-eq0
returns-then-k-eq0 c =
    ⊎_elim (pad-zero c.args.block.now c.told-block c.from-k.result (search rules)) (λ z. pad_large c.args.block.now c.told-block c.from-k.result (search rules) z.1) c.then-k-eq0.either

pub returns-then-all_are : goal.returns-then-all_are
returns-then-all_are c =
    pad_by c.args.block.now c.told-block c.from-k.result (search rules) true (omega arith) (omega arith)
    (sym (ap (all_are c.from-k.result) c.split_at.ensures.back) ∙ search rules)

pub returns-else-all_are : goal.returns-else-all_are
returns-else-all_are c =
    pad_by c.args.block.now c.told-block c.from-k.result (search rules) false (omega arith) (omega arith)
    (sym (ap (all_are c.from-k.result) c.split_at.ensures.back) ∙ search rules)

-- The bytes stand behind those that were there.
use Rattle.std.proofs.Common.{rules}
use Rattle.std.proofs.lemmas.List.{places}
use Rattle.chained.specs.TakingIn.{filled_up, filled-whole}
use Rattle.chained.proofs.progress.steps.fill.Goals as goal

pub returns : goal.returns
returns c = record {
  count = c.min-n.ensures;
  joins = filled_up c.args.part.now c.copy_from_slice.new.self c.args.piece.now c.args.filled c.min-n.result c.requires c.told-part c.min-n.ensures c.copy_from_slice.ensures.after;
  full = λ most. filled-whole c.args.part.now c.copy_from_slice.new.self c.args.piece.now c.args.filled c.min-n.result c.requires c.told-part c.min-n.ensures c.copy_from_slice.ensures.after most;
  keeps = search (rules, places);
}

-- With less than a block behind the last one, closing hands out the block that is held back.
use Rattle.std.proofs.Common.{sym, subst, arith}
use Rattle.methods.specs.Refusal.{given, Gives}
use Rattle.chained.specs.Steps.{arrived}
use Rattle.chained.specs.Advancing.{remaining-ended, closing_room}
use Rattle.chained.specs.TakingIn.{part_few}
use Rattle.chained.proofs.progress.Progress.finish.Goals as goal

pub put_last-requires : goal.put_last-requires
put_last-requires c = omega (arith, closing_room c.args.self.now.last c.args.self.now.wide, c.requires)

pub returns : goal.returns
returns c p =
    let s = c.args.self.now in
    subst (λ o. Gives (given o) c.args.out.now c.put_last.result c.put_last.new.out) (sym (remaining-ended p (arrived s) (part_few s.filled s.part s.few) s.last)) c.put_last.ensures

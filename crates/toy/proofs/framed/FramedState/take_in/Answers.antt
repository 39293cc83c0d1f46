-- A piece that ends in the header, and one that does not.
use Rattle.toy.specs.Unframing.{fed_none, fed_some}
use Rattle.toy.proofs.framed.FramedState.take_in.Goals as goal

pub returns-in_default : goal.returns-in_default
returns-in_default c =
    let s = c.args.self.now in
    fed_none s.missing c.min-skip.result c.args.piece.now c.min-skip.ensures s.held c.args.out.now c.in_default.ensures.cases

pub returns : goal.returns
returns c =
    let s = c.args.self.now in
    let both = c.write_both-count in
    fed_some s.missing c.min-skip.result c.args.piece.now c.min-skip.ensures s.held c.in-Some.front.now c.in-Some.last.now c.args.out.now both.new.out both.result c.in-Some.ensures.cases both.ensures.count both.ensures.writes

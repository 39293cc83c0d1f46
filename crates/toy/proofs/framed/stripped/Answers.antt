-- The last byte is the end mark, or not, or there is none.
use Rattle.std.proofs.Common.{rules}
use Rattle.toy.specs.Unframing.{strip_marked, strip_unmarked}
use Rattle.toy.proofs.framed.stripped.Goals as goal

pub returns-in-Some : goal.returns-in-Some
returns-in-Some c = strip_marked c.args.body.now c.in-Some.front.now c.in-Some.last.now c.in-Some.ensures.cases (search rules)

pub returns-in_default : goal.returns-in_default
returns-in_default c = strip_unmarked c.args.body.now c.in-Some.front.now c.in-Some.last.now c.in-Some.ensures.cases (search rules)

-- A step from its parts, with the tables against their rules.
use Rattle.std.proofs.Common.{get_or}
use Rattle.md5_digest.specs.Md5.{sines}
use Rattle.md5_digest.proofs.Steps.{shifts, shift_at, step_is}
use Rattle.md5_digest.proofs.step.Goals as goal

pub returns : goal.returns
unfolding sines
returns c =
    step_is c.args.words.now c.args.i c.args.v c.choose-f.result.0 c.choose-f.result.1 (get_or shifts c.args.i 0) c.rotate_left.result
    (shift_at shifts tt c.args.i c.requires) c.choose-f.ensures.value c.choose-f.ensures.word c.rotate_left.ensures

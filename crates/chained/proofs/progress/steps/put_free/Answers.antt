-- A whole block is written, or nothing is.
use Rattle.std.proofs.Common.{◌≡◌, length, rules}
use Rattle.cbc.proofs.Parts.{placed}
use Rattle.chained.specs.TakingIn.{put_nothing, put_block}
use Rattle.chained.proofs.progress.steps.put_free.Goals as goal

pub returns-in-None : goal.returns-in-None
returns-in-None c =
    let put = put_nothing c.args.free c.args.at c.args.out.now c.in-None.is in
    record { end = put.0; writes = put.1 }

pub returns-in-Some : goal.returns-in-Some
returns-in-Some c =
    let sixteen : length c.in-Some.block ≡ 16 = search rules in
    let put = put_block c.args.free c.in-Some.block c.args.at c.args.out.now _ c.in-Some.is sixteen (placed c.args.at 16 c.args.out.now _ c.in-Some.block c.copy_from_slice.ensures.after) in
    record { end = put.0; writes = put.1 }

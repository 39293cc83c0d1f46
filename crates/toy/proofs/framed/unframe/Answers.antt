-- What stands between the header and the end mark.
use Rattle.std.proofs.Common.{◌≤◌, length, rules}
use Rattle.toy.specs.Unframing.{restores, restores_room}
use Rattle.toy.proofs.framed.unframe.Goals as goal

pub slice_bounds-copy_from_slice-end : goal.slice_bounds-copy_from_slice-end
slice_bounds-copy_from_slice-end c =
    let room : length c.stripped-body.result.now ≤ length c.args.out.now = restores_room c.args.bytes.now c.in-Some.body.now c.stripped-body.result.now (length c.args.out.now) c.in-Some.ensures.cases.1 c.stripped-body.ensures c.requires in
    search rules

pub returns : goal.returns
returns c = restores c.args.bytes.now c.in-Some.body.now c.stripped-body.result.now _ c.args.out.now (search rules) c.in-Some.ensures.cases.1 c.stripped-body.ensures c.copy_from_slice.ensures.after

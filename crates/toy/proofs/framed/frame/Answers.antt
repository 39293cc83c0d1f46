-- The header, the data, the end mark.
use Rattle.std.proofs.Common.{◌≡◌, ◌+◌, ◌-◌, length, sym, refl, arith}
use Rattle.toy.specs.Unframing.{framed_length, protects}
use Rattle.toy.proofs.framed.frame.Goals as goal

pub returns : goal.returns
returns c =
    let d = c.args.data.now in
    let long : length c.args.data.now + 16 - 16 ≡ length c.args.data.now = omega arith in
    record {
      count = sym (framed_length c.args.vector.now d c.told-vector);
      writes = protects c.args.vector.now d c.copy_from_slice.new.self c.copy_from_slice-2.new.self c.args.out.now _ _ c.told-vector refl long c.requires c.copy_from_slice.ensures.after c.copy_from_slice-2.ensures.after;
    }

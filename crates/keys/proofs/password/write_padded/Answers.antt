-- Two copies make the padded password.
use Rattle.keys.specs.Password.{password_padding}
use Rattle.keys.proofs.Pads.{pad_is}
use Rattle.keys.proofs.password.write_padded.Goals as goal

pub returns : goal.returns
unfolding password_padding
returns c =
    pad_is c.args.area.now c.args.password.now _ _ c.min-n.result c.min-n.ensures c.requires c.copy_from_slice.ensures.after c.copy_from_slice-2.ensures.after

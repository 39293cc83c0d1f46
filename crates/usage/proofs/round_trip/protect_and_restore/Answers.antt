-- What was protected lies in its buffer, and comes back.
use Rattle.std.proofs.Common.{arith}
use Rattle.opening.specs.File.{viewed}
use Rattle.reader.specs.Object.{handed}
use Rattle.usage.proofs.Returning.{stored_fits, returned, refused_for_space}
use Rattle.usage.proofs.round_trip.protect_and_restore.Goals as goal

pub slice_bounds-restore_with-end : goal.slice_bounds-restore_with-end
slice_bounds-restore_with-end g c = let h = stored_fits _ _ _ _ _ _ c.in_ok-n.ensures in omega arith

pub unreachable-requires : goal.unreachable-requires
unreachable-requires g c =
    refused_for_space (viewed c.args.pair.made) (viewed c.args.pair.file) (handed (g.M.CryptMethod.scheme c.args.method.now)) (c.requires.across.by_method c.args.method.now) c.args.object _ _ _ _ _ _ _ _
    c.told-vector c.fits-vector (λ i. (c.type_inv.data i).fits) c.in_ok-n.ensures (omega arith)
    c.in-Err.refusal c.in-Err.ensures c.in_default.not-WorkSpace c.in_default.not-USpace c.in_default.not-NoSpace

pub returns-in-Ok-clause-returned : goal.returns-in-Ok-clause-returned
returns-in-Ok-clause-returned g c =
    returned (viewed c.args.pair.made) (viewed c.args.pair.file) (handed (g.M.CryptMethod.scheme c.args.method.now)) (c.requires.across.by_method c.args.method.now) c.args.object _ _ _ _ _ _ _ _
    c.told-vector c.fits-vector (λ i. (c.type_inv.data i).fits) c.in_ok-n.ensures (omega arith)
    c.in-Ok.output c.in-Ok.ensures

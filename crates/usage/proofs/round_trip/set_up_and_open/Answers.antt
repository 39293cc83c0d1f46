-- Opening is refused for space alone, and what it opens is the file that was set up.
use Rattle.std.proofs.Common.{◌≡◌, Some, Ok, Err, w64, to_z, of_z, ap, refl, rules}
use Rattle.usage.proofs.Reopened.{reopened, refused_for_space, reopened_told}
use Rattle.usage.proofs.round_trip.set_up_and_open.Goals as goal

pub unreachable-requires : goal.unreachable-requires
unreachable-requires g c =
    refused_for_space _ _ (c.promises.ensures.set_up_opens c.args.series.now) _ _ _ _ _ _ c.in_ok-made.made c.in_ok-made.ensures _ _ _
    c.in-Err.refusal refl c.in-Err.ensures c.in_default.not-WorkSpace c.in_default.not-USpace c.in_default.not-NoSpace

pub returns-in-Ok-clause-again : goal.returns-in-Ok-clause-again
returns-in-Ok-clause-again g c =
    reopened _ _ (c.promises.ensures.set_up_opens c.args.series.now) _ _ _ _ _ _ c.in_ok-made.made c.in_ok-made.ensures _ _ _
    c.in-Ok.file refl c.in-Ok.ensures

pub returns-in-Ok-clause-told : goal.returns-in-Ok-clause-told
returns-in-Ok-clause-told g c =
    let numbered : to_z w64 (of_z w64 c.args.settings.p) ≡ c.args.settings.p = search rules in
    reopened_told (g.S.Series.meaning c.args.series.now) c.args.settings _ c.args.password.now c.args.work.now _ _ _ c.in_ok-made.made c.in_ok-made.ensures
    (record { filter = refl; v = refl; r = refl; long = refl; streams = refl; strings = refl; owner = refl; user = refl; permissions = ap Some numbered; metadata = refl; id = refl; block = refl; entries = refl })
    _ refl (Ok c.in-Ok.file) c.in-Ok.ensures _ refl

pub returns-in-WorkSpace-clause-told : goal.returns-in-WorkSpace-clause-told
returns-in-WorkSpace-clause-told g c =
    let numbered : to_z w64 (of_z w64 c.args.settings.p) ≡ c.args.settings.p = search rules in
    reopened_told (g.S.Series.meaning c.args.series.now) c.args.settings _ c.args.password.now c.args.work.now _ _ _ c.in_ok-made.made c.in_ok-made.ensures
    (record { filter = refl; v = refl; r = refl; long = refl; streams = refl; strings = refl; owner = refl; user = refl; permissions = ap Some numbered; metadata = refl; id = refl; block = refl; entries = refl })
    _ refl (Err c.in-Err.refusal) c.in-Err.ensures _ refl

-- The two openings that were made.
use Rattle.std.proofs.Common.{subst}
use Rattle.filters.specs.Series.{first_tag}
use Rattle.filters.specs.Tag.{standard_tag}
use Rattle.opening.specs.Open.{Opens}
use Rattle.usage.proofs.both_series.open_in_turn.Goals as goal

pub returns : goal.returns
returns g c =
    let f = c.args.fields.now in
    let password = c.args.password.now in
    let cleared = c.open-first.ensures.zeroed in
    record {
      first = subst (λ w. Opens first_tag f password c.args.work.now c.open-first.result w) cleared c.open-first.ensures;
      second = subst (λ w. Opens standard_tag f password w c.open-second.result c.open-second.new.work) cleared c.open-second.ensures;
      agree = c.second_knows_more.ensures f password c.args.work.now c.open-first.new.work c.open-first.new.work c.open-second.new.work c.open-first.result c.open-second.result c.open-first.ensures c.open-second.ensures;
    }

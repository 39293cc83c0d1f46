-- The promise on two series, whose premise these two meet.
use Rattle.usage.specs.BothSeries.{Agree}
use Rattle.usage.proofs.BothSeries.{second_knows}
use Rattle.usage.proofs.both_series.second_knows_more.Goals as goal

pub returns : goal.returns
unfolding Agree
returns g c = λ f password x_work x_after y_work y_after r s. c.promises.ensures.smaller_opens _ _ second_knows f password x_work x_after y_work y_after r s

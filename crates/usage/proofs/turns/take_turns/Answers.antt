-- The calls that were made, as one list, under the promise on runs.
use Rattle.reader.specs.Run.{standing}
use Rattle.reader.specs.Tag.{tag_means}
use Rattle.usage.specs.declared.turns.Turns.{Turns}
use Rattle.usage.proofs.Interleaved.{turned}
use Rattle.usage.proofs.turns.take_turns.Goals as goal

pub returns-clause-turned : goal.returns-clause-turned
returns-clause-turned g c =
    let means = g.M.State.Running.means in
    let t : Turns = record {
      first_fed = c.feed-first_fed.result;
      second_fed = c.feed-second_fed.result;
      first_closed = c.close-first_closed.result;
      second_closed = c.close-second_closed.result;
    } in
    turned (standing tag_means c.args.first.now) (standing tag_means c.feed-first_fed.new.self) (standing tag_means c.close-first_closed.new.self)
    (standing means c.args.second.now) (standing means c.feed-second_fed.new.self) (standing means c.close-second_closed.new.self)
    c.args.p.now c.args.q.now c.args.w.now c.feed-first_fed.new.out c.args.x.now c.feed-second_fed.new.out
    c.args.y.now c.close-first_closed.new.out c.args.z.now c.close-second_closed.new.out t
    c.feed-first_fed.ensures.fed c.feed-second_fed.ensures.fed c.close-first_closed.ensures.shut c.close-second_closed.ensures.shut
    g.M.CryptMethod.scheme c.promises.ensures.runs_agree

-- The promises, from the laws of opening, of series and of methods.
use Rattle.reader.specs.Object.{tagged, handed}
use Rattle.promises.proofs.Answering.{runs_agree}
use Rattle.promises.proofs.Opening.{set_up_opens, smaller_opens}
use Rattle.promises.proofs.promises.Goals as goal

pub returns : goal.returns
returns g c =
    let small = g.S.Series.meaning in
    let large = g.L.Series.meaning in
    let scheme = g.M.CryptMethod.scheme in
    let laws = c.laws.ensures in
    record {
      set_up_opens = λ s. set_up_opens laws scheme g.met.M.CryptMethod.lawful (small s);
      runs_agree = record { by_tag = λ t. runs_agree (tagged t); by_method = λ m. runs_agree (handed (scheme m)) };
      smaller_opens = λ s l. smaller_opens laws scheme (small s) (large l) (g.met.S.Series.named s) (g.met.L.Series.named l);
    }

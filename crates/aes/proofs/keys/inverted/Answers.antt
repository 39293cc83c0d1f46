-- The words between the first and the last four have gone through InvMixColumns.
use Rattle.std.proofs.Common.{◌≡◌, ◌-◌, ◌<◌, [], length, take, drop, ap, ◌∙◌, arith, length-drop}
use Rattle.std.proofs.lemmas.List.{get_or-take, get_or-drop, length-take-le}
use Rattle.aes.specs.State.{inv_mix_column}
use Rattle.aes.proofs.EquivalentLaws.{inverse_of}
use Rattle.aes.proofs.keys.inverted.Goals as goal

pub returns : goal.returns
returns g c =
    let w = c.args.w.now in
    let n = g.row.N in
    let l : length (take (n - 4 - 4) (drop 4 w)) ≡ n - 4 - 4 = length-take-le (n - 4 - 4) (drop 4 w) (omega (arith, length-drop 4 w)) in
    inverse_of w c.inv_mix_words.new.words n c.told-w c.requires (omega arith)
    (λ k h.
    let m : k < n - 4 - 4 = omega arith in
    c.inv_mix_words.ensures k (omega arith) ∙ ap inv_mix_column (get_or-take (n - 4 - 4) (drop 4 w) k [] m ∙ get_or-drop 4 w k []))

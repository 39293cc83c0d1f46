-- A round on four words is the round on their bytes.
use Rattle.std.proofs.Common.{ℕ, List, ◌∙◌, ap, [], get_or}
use Rattle.byte_strings.specs.Bytes.{Bytes}
use Rattle.aes.specs.Direction.{column_mixed}
use Rattle.aes.specs.Words.{unpacked}
use Rattle.aes.proofs.RoundWords.{mixed_words}
use Rattle.aes.proofs.state.round.Goals as goal

pub returns : goal.returns
unfolding unpacked
returns g c =
    let e = c.columns-columns.ensures in
    let at = λ (i : ℕ). ap (λ (cs : List Bytes). column_mixed g.D.Direction.inverse (get_or cs i []) (get_or c.args.key.now i [])) e in
    mixed_words c.args.key.now (unpacked c.args.state.now) g.D.Direction.inverse
    (c.column.ensures ∙ at 0) (c.column-2.ensures ∙ at 1) (c.column-3.ensures ∙ at 2) (c.column-4.ensures ∙ at 3)

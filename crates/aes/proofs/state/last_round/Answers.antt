-- The last round on four words is that on their bytes.
use Rattle.std.proofs.Common.{ℕ, List, ◌∙◌, ap, [], get_or}
use Rattle.byte_strings.specs.Bytes.{Bytes}
use Rattle.aes.specs.Direction.{column_substituted}
use Rattle.aes.specs.Words.{unpacked}
use Rattle.aes.proofs.RoundWords.{last_words}
use Rattle.aes.proofs.state.last_round.Goals as goal

pub returns : goal.returns
returns g c =
    let e = c.columns-columns.ensures in
    let at = λ (i : ℕ). ap (λ (cs : List Bytes). column_substituted g.D.Direction.inverse (get_or cs i []) (get_or c.args.key.now i [])) e in
    last_words c.args.key.now (unpacked c.args.state.now) g.D.Direction.inverse
    (c.last_column.ensures ∙ at 0) (c.last_column-2.ensures ∙ at 1) (c.last_column-3.ensures ∙ at 2) (c.last_column-4.ensures ∙ at 3)

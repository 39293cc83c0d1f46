-- The first round only adds its key.
use Rattle.std.proofs.Common.{◌≡◌, ◌/◌, ℕ, List, [], get_or, ap, ◌∙◌}
use Rattle.std.specs.Simd.{first_chunks}
use Rattle.byte_strings.specs.Bytes.{Bytes}
use Rattle.aes.specs.Words.{unpacked, added}
use Rattle.aes.proofs.RoundWords.{first_words}
use Rattle.aes.proofs.state.first_round.Goals as goal

pub returns : goal.returns
unfolding unpacked
returns c =
    let e : c.as_chunks.result.0.now ≡ first_chunks 4 4 c.args.block.now = c.as_chunks.ensures.front ∙ ap (λ n. first_chunks 4 (n / 4) c.args.block.now) c.told-block in
    let at = λ (i : ℕ). ap (λ (cs : List Bytes). let k : Bytes = get_or cs i [] in added (get_or k 0 0) (get_or k 1 0) (get_or k 2 0) (get_or k 3 0) (get_or c.args.key.now i [])) e in
    first_words c.args.key.now c.args.block.now (c.first_column.ensures ∙ at 0) (c.first_column-2.ensures ∙ at 1) (c.first_column-3.ensures ∙ at 2) (c.first_column-4.ensures ∙ at 3)

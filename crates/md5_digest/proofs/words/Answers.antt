-- One word more.
use Rattle.std.proofs.Common.{◌≤◌, length, ◌∙◌, arith, length-drop, length-set, length-take}
use Rattle.md5_digest.proofs.Blocks.{words_more, words_all}
use Rattle.md5_digest.proofs.words.Goals as goal

pub loop-word-preserved : goal.loop-word-preserved
loop-word-preserved c =
    let four : 4 ≤ length c.loop-word.left.now = omega arith in (
      simp length-set c.loop-word.invariant.0,
      simp (length-take, length-drop) (omega arith),
      words_more c.loop-word.word-items c.loop-word.left.now c.loop-word.word-index c.from_le_bytes.result (omega arith) c.loop-word.invariant.0 four c.from_le_bytes.ensures ∙ c.loop-word.invariant.2,
    )

pub returns : goal.returns
returns c = words_all c.loop-word.word-items c.loop-word.left.now c.loop-word.word-index (omega arith) c.loop-word.invariant.0 ∙ c.loop-word.invariant.2

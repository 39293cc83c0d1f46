-- The words so far, and those of the bytes that are left.
use Rattle.std.proofs.Common.{◌≡◌, ◌+◌, ◌-◌, ◌*◌, ◌++◌, length, take}
use Rattle.md5_digest.specs.Md5.{words}
use Rattle.md5_digest.proofs.words.Given as goal

abbrev pub invariant-loop-word : goal.invariant-loop-word
invariant-loop-word l =
    (length l.word-items ≡ 16)
    × (length l.left + 4 * l.word-index ≡ 64)
    × (take l.word-index l.word-items ++ words (16 - l.word-index) l.left ≡ words 16 l.block)

-- The four bytes of the word.
use Rattle.std.proofs.Common.{◌-◌, [], get_or, ap}
use lib.Bits.{bit_xor}
use Rattle.byte_strings.specs.Bytes.{Bytes}
use Rattle.aes.specs.Keys.{next_word, word}
use Rattle.aes.proofs.keys.next_word.Goals as goal

pub returns : goal.returns
unfolding next_word
returns c = ap (λ (m : Bytes). word (λ j. bit_xor (get_or (get_or c.args.w.now (c.args.i - c.args.nk) []) j 0) (get_or m j 0))) c.mask.ensures

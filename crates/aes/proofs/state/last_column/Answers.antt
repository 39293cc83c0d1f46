-- Four bytes through the S-box, with the key added.
use Rattle.std.proofs.Common.{get_or, ap}
use lib.Bits.{bit_xor}
use Rattle.aes.specs.Words.{added}
use Rattle.aes.proofs.WordLaws.{four}
use Rattle.aes.proofs.state.last_column.Goals as goal

pub returns : goal.returns
unfolding added
returns g c =
    four (ap (λ x. bit_xor x (get_or c.args.key.now 0 0)) c.byte.ensures) (ap (λ x. bit_xor x (get_or c.args.key.now 1 0)) c.byte-2.ensures)
    (ap (λ x. bit_xor x (get_or c.args.key.now 2 0)) c.byte-3.ensures) (ap (λ x. bit_xor x (get_or c.args.key.now 3 0)) c.byte-4.ensures)

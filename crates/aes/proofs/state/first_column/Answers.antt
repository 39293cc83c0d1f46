-- A column with a word of the key.
use Rattle.std.proofs.Common.{get_or, ap, ◌∙◌, ap₂}
use lib.Bits.{bit_xor}
use Rattle.aes.specs.Words.{bytes_of}
use Rattle.aes.proofs.WordLaws.{packed-added}
use Rattle.aes.proofs.state.first_column.Goals as goal

pub returns : goal.returns
returns c =
    ap bytes_of (ap₂ bit_xor c.from_le_bytes.ensures c.from_le_bytes-2.ensures)
    ∙ packed-added c.args.key.now c.fits-key (get_or c.args.bytes.now 0 0) (get_or c.args.bytes.now 1 0) (get_or c.args.bytes.now 2 0) (get_or c.args.bytes.now 3 0) (c.fits-bytes 0)
    (c.fits-bytes 1) (c.fits-bytes 2) (c.fits-bytes 3)

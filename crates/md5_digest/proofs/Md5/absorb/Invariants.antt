-- The blocks so far are absorbed, and the rest is to come.
use Rattle.std.proofs.Common.{◌*◌, min, length, drop}
use Rattle.md5_digest.proofs.Feeding.{Left, Opens}
use Rattle.md5_digest.proofs.Md5.absorb.Given as goal

abbrev pub invariant-loop-block : goal.invariant-loop-block
invariant-loop-block l =
    Left l.fn.self l.fn.piece l.self (drop (l.block-index * 64) (drop (min l.open (length l.piece)) l.piece))
    × Opens l.self (drop (l.block-index * 64) (drop (min l.open (length l.piece)) l.piece))

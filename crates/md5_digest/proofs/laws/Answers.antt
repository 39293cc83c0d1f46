-- The laws of the padding and of the digest.
use Rattle.md5_digest.proofs.Padding as padding
use Rattle.md5_digest.proofs.laws.Goals as goal

pub returns : goal.returns
returns c = record { completes = padding.completes; sixteen = padding.sixteen }

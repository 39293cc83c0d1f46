-- A digest that holds no byte has only the message ahead.
use Rattle.std.proofs.Common.{◌++◌, length, ap, zero-add}
use Rattle.md5_digest.specs.Md5.{absorbed, padding, digest, digested}
use Rattle.md5_digest.specs.Stream.{absorbing, digest_after}
use Rattle.md5_digest.proofs.Md5.from_registers.Goals as goal

pub returns : goal.returns
unfolding absorbing digest_after digested
returns c rest = ap (λ n. digest (absorbed c.args.chain (rest ++ padding n))) (zero-add (length rest))

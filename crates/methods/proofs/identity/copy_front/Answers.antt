-- A copy of the bytes is a feeding of them.
use Rattle.std.proofs.Common.{refl, rules}
use Rattle.methods.proofs.Feedings.{copied}
use Rattle.methods.proofs.identity.copy_front.Goals as goal

pub returns : goal.returns
returns c = record { count = refl; writes = search rules; fed = copied c.args.bytes.now c.args.out.now _ _ refl (search rules) }

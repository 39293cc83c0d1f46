-- The key byte stands at the sum of the two values that were traded.
use Rattle.std.proofs.Common.{◌≡◌, length, refl, rules}
use Rattle.rc4.specs.Rc4.{next}
use Rattle.rc4.proofs.Tables.{key_byte-next}
use Rattle.rc4.proofs.Rc4.key_byte.Goals as goal

pub returns : goal.returns
unfolding next
returns c =
    let len : length c.args.self.now.s ≡ 256 = search rules in
    record { steps = refl; byte = key_byte-next c.args.self.now len }

-- The second round writes its function with the operands the other way round.
use Rattle.std.proofs.Common.{◌≡◌, ◌-◌, ◌∙◌, ap₂, rules}
use lib.Bits.{bit_or, and_comm}
use Rattle.md5_digest.specs.Md5.{G, mixed}
use Rattle.md5_digest.proofs.choose.Goals as goal

pub returns-in-16-to-31 : goal.returns-in-16-to-31
returns-in-16-to-31 c =
    let v = c.args.v in
    let chosen : G c.args.v.b c.args.v.c c.args.v.d ≡ mixed c.args.i c.args.v = search rules in
    record {
      value = ap₂ bit_or (and_comm v.d v.b) (and_comm (4294967295 - v.d) v.c) ∙ chosen;
      word = search rules;
      within = search rules;
    }

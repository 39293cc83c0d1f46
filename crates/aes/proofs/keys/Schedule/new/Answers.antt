-- The words of an expanded key are bytes.
use Rattle.std.proofs.Common.{◌-◌, sym, subst}
use Rattle.aes.specs.Keys.{Words}
use Rattle.aes.proofs.KeyLaws.{expanded_bytes}
use Rattle.aes.proofs.keys.Schedule.new.Goals as goal

pub invariant_of-result : goal.invariant_of-result
invariant_of-result g c = record {
  bytes = subst Words (sym c.expanded-words.ensures) (expanded_bytes c.args.nk (g.row.N - c.args.nk) c.args.key.now (λ i. (c.type_inv.key i).fits));
  inverted = c.inverted-inverse.ensures;
}

-- What is left of the rounds, from the state so far, gives the whole.
use Rattle.std.proofs.Common.{◌≡◌, length, take, drop}
use Rattle.aes.specs.Cipher.{eq_inv_rounds, eq_inv_cipher}
use Rattle.aes.specs.Words.{unpacked}
use Rattle.aes.proofs.keys.Schedule.decrypt.Given as goal

abbrev pub invariant-loop-key : goal.invariant-loop-key
invariant-loop-key g l =
    record {
      keys : l.key-iterator.iter.rest.now ≡ take (length l.key-iterator.iter.rest.now) (drop 1 l.keys);
      left : eq_inv_rounds l.self.inverse (length l.key-iterator.iter.rest.now) (unpacked l.state) ≡ eq_inv_cipher l.self.inverse g.row.ROUNDS l.block;
    }

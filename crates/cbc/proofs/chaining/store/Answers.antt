-- The start vector and what is written behind it, which restoring gives back.
use Rattle.std.proofs.Common.{refl}
use Rattle.cbc.specs.Chaining.{encrypted, protected}
use Rattle.cbc.proofs.Parts.{placed_behind, put-long}
use Rattle.cbc.proofs.RoundTrip.{round_trip}
use Rattle.cbc.proofs.chaining.store.Goals as goal

pub returns : goal.returns
unfolding protected
returns g c =
    let p = g.C.BlockCipher.permutation c.args.cipher.now in
    record {
      writes = placed_behind c.args.vector.now (encrypted p c.args.vector.now c.args.data.now) c.args.out.now c.put.new.out c.chain.new.out
          c.told-vector (put-long 0 16 0 c.args.out.now c.args.vector.now c.put.new.out refl c.told-vector c.put.ensures) c.chain.ensures.writes;
      law = round_trip p (g.met.C.BlockCipher.invertible c.args.cipher.now) c.args.vector.now c.args.data.now (c.told-vector, c.fits-vector) (λ i. (c.type_inv.data i).fits);
    }

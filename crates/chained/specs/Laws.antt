-- The law of chaining as a method.
use Rattle.std.specs.Prelude.{◌≡◌, Bool, cond, length, Some, None}
use Rattle.std.proofs.Common.{ap, ◌∙◌, arith}
use Rattle.std.proofs.lemmas.Bool.{le-ltb, eqb-true}
use Rattle.byte_strings.specs.Bytes.{Bytes, Octets}
use Rattle.aes.specs.BlockCipher.{Invertible}
use Rattle.cbc.specs.Chaining.{protected, restored, RoundTrip}
use Rattle.cbc.proofs.RoundTrip.{round_trip}
use Rattle.methods.specs.Method.{Lawful, Sound}
use Rattle.methods.specs.declared.key_kind.KeyKind.{KeyKind}
use Rattle.chained.specs.Keyed.{Family}
use Rattle.chained.specs.ChainedMethod.{chained_scheme}

-- the law of the method, where the cipher is invertible under its keys
pub chained_lawful : (kind : KeyKind) (c : Family) → ((k : Bytes) → length k ≡ c.size → Octets k → Invertible (c.under k)) → Lawful (chained_scheme kind c)
chained_lawful kind c inverts =
    let trip : (k v d : Bytes) → Sound (chained_scheme kind c) k v d → RoundTrip (c.under k) v d =
    λ k v d s. round_trip (c.under k) (inverts k (eqb-true (length k) c.size s.admitted) s.key) v d (s.sixteen, s.vector) s.content in
    record {
      sized = λ k v d s. (trip k v d s).long;
      restores = λ k v d s.
          let t = trip k v d s in
          let y = protected (c.under k) v d in
          ap (λ (b : Bool). cond b None (Some (restored (c.under k) y))) (le-ltb (length y) 16 (omega (arith, t.long))) ∙ ap Some t.back;
    }

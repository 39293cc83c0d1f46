-- The laws of the copy and of RC4.
use Rattle.std.specs.Prelude.{◌≡◌, [], length, Some, refl}
use Rattle.std.proofs.Common.{ap, arith}
use Rattle.rc4.specs.declared.Rc4.{Rc4}
use Rattle.rc4.specs.Rc4.{stream, keyed}
use Rattle.rc4.proofs.Streams.{undoes, length-stream}
use Rattle.methods.specs.Running.{Fits}
use Rattle.methods.specs.Method.{Lawful}
use Rattle.methods.specs.Identity.{copy_scheme}
use Rattle.methods.specs.Rc4Method.{streaming, rc4_scheme}

pub copy_lawful : Lawful copy_scheme
copy_lawful = record { sized = λ k v d sound. refl; restores = λ k v d sound. refl }

pub rc4_lawful : Lawful rc4_scheme
rc4_lawful = record { sized = λ k v d sound. length-stream (keyed k) d; restores = λ k v d sound. ap Some (undoes k d) }

pub stream_fits : (c : Rc4) → Fits (streaming c)
stream_fits c = record {
  closing = λ w e. let is : [] ≡ w = cc in omega (arith, ap length is);
  whole = λ x w e. let is : stream c x ≡ w = cc in omega (arith, ap length is, length-stream c x);
}

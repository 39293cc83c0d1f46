-- RC4 as a crypt method.
use Rattle.std.specs.Prelude.{true, Some, nat_lt}
use Rattle.rc4.specs.declared.Rc4.{Rc4}
use Rattle.rc4.specs.Rc4.{stream, keyed, rc4}
use Rattle.methods.specs.declared.key_kind.KeyKind.TheVariants.{Object}
use Rattle.methods.specs.Running.{Residual}
use Rattle.methods.specs.Method.{Scheme}

-- a byte for each byte, and nothing at the end
abbrev pub streaming : Rc4 → Residual
streaming c = record { ahead = λ x. Some (stream c x); hands = λ n. n; closing = 0; later = λ _. 0; steady = true }

-- It takes the object key, and admits a byte or more.
abbrev pub rc4_scheme : Scheme
rc4_scheme = record {
  takes = Object;
  admits = λ n. nat_lt 0 n;
  stored = λ k _ d. rc4 k d;
  size = λ n. n;
  restoring = λ k. streaming (keyed k);
}

-- The method that changes no byte.
use Rattle.std.specs.Prelude.{true, Some}
use Rattle.methods.specs.declared.key_kind.KeyKind.TheVariants.{File}
use Rattle.methods.specs.Running.{Residual}
use Rattle.methods.specs.Method.{Scheme}

-- a byte for each byte, and nothing at the end
abbrev pub copying : Residual
copying = record { ahead = λ x. Some x; hands = λ n. n; closing = 0; later = λ _. 0; steady = true }

-- It admits every key.
abbrev pub copy_scheme : Scheme
copy_scheme = record {
  takes = File;
  admits = λ _. true;
  stored = λ _ _ d. d;
  size = λ n. n;
  restoring = λ _. copying;
}

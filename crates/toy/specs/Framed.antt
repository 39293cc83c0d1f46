-- A stored form with the start vector as its header and an end mark; the key plays no part but for its length.
use Rattle.std.specs.Prelude.{ℕ, ◌+◌, ◌-◌, min, false, cond, [], ◌∷◌, ◌++◌, length, drop, Some, None, Option, ◌==◌, nat_lt}
use Rattle.byte_strings.specs.Bytes.{Bytes}
use Rattle.methods.specs.Running.{Residual}
use Rattle.methods.specs.Method.{Scheme}
use Rattle.methods.specs.declared.key_kind.KeyKind.TheVariants.{Salted}
use Rattle.toy.specs.declared.framed.FramedState.{FramedState}

-- without a last byte 0x80; otherwise all stays
abbrev pub strip : Bytes → Bytes
strip [] = []
strip (x ∷ []) = cond (x == 128) [] (x ∷ [])
strip (x ∷ y ∷ ys) = x ∷ strip (y ∷ ys)

-- the header, the data, the end mark
abbrev pub stored_form : Bytes → Bytes → Bytes
stored_form vector content = vector ++ (content ++ 128 ∷ [])

-- Restoring with some bytes of the header missing and the latest byte of the data held back.
-- It leaves open how its lengths go with other pieces.
abbrev pub unframing : ℕ → Bytes → Residual
unframing missing held = record {
  ahead = λ x. cond (nat_lt (length x) missing) None (Some (strip (held ++ drop missing x)));
  hands = λ n. length held + (n - missing) - 1;
  closing = length held;
  later = λ n. min 1 (length held + (n - missing));
  steady = false;
}

-- It takes the salted object key, and admits a byte or more.
abbrev pub framed_scheme : Scheme
framed_scheme = record {
  takes = Salted;
  admits = λ n. nat_lt 0 n;
  stored = λ _ v d. stored_form v d;
  size = λ n. n + 17;
  restoring = λ _. unframing 16 [];
}

-- the byte that is there, if any
abbrev pub listed : Option ℕ → Bytes
listed None = []
listed (Some b) = b ∷ []

abbrev pub meaning : FramedState → Residual
meaning s = unframing s.missing (listed s.held)

-- Chaining over a block cipher as a crypt method.
use Rattle.std.specs.Prelude.{ℕ, ◌-◌, ◌*◌, ◌/◌, true, cond, length, Some, None, Option, ◌==◌, nat_lt}
use Rattle.byte_strings.specs.Bytes.{Bytes}
use Rattle.aes.specs.BlockCipher.{Permutation}
use Rattle.cbc.specs.Chaining.{stored_length, protected, restored}
use Rattle.methods.specs.Running.{Residual}
use Rattle.methods.specs.Method.{Scheme}
use Rattle.methods.specs.declared.key_kind.KeyKind.{KeyKind}
use Rattle.chained.specs.Keyed.{Family}

-- how many complete blocks stand behind the start vector, of n stored bytes
abbrev pub blocks : ℕ → ℕ
blocks n = (n - 16) / 16

-- Of b such blocks all but the last are out, since the last may end in padding.
abbrev pub handed_out : ℕ → ℕ
handed_out n = 16 * (blocks n - 1)

-- the closing space: that last block
abbrev pub held_back : ℕ → ℕ
held_back n = cond (nat_lt 0 (blocks n)) 16 0

-- what restoring y gives: nothing without a start vector
abbrev pub recovered : Permutation → Bytes → Option Bytes
recovered p y = cond (nat_lt (length y) 16) None (Some (restored p y))

-- restoring before its first byte
abbrev pub unchaining : Permutation → Residual
unchaining p = record { ahead = recovered p; hands = handed_out; closing = 0; later = held_back; steady = true }

-- It takes the key of this kind, and admits the lengths of the cipher's keys.
abbrev pub chained_scheme : KeyKind → Family → Scheme
chained_scheme kind c = record {
  takes = kind;
  admits = λ n. (n == c.size);
  stored = λ k v d. protected (c.under k) v d;
  size = stored_length;
  restoring = λ k. unchaining (c.under k);
}

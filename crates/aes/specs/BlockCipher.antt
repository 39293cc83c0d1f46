-- What a block cipher is under a key: two maps of blocks, each undoing the other.
use Rattle.std.specs.Prelude.{◌≡◌, length}
use Rattle.byte_strings.specs.Bytes.{Bytes, Octets}

-- a list of 16 bytes
abbrev pub Block : Bytes → Type 0
Block s = (length s ≡ 16) × Octets s

pub record Permutation : Type 0 where
  pub forward : Bytes → Bytes
  pub back : Bytes → Bytes

-- both maps make blocks of blocks, and each undoes the other
pub record Invertible (p : Permutation) : Type 0 where
  pub forward_block : (s : Bytes) → Block s → Block (p.forward s)
  pub back_block : (s : Bytes) → Block s → Block (p.back s)
  pub undone : (s : Bytes) → Block s → p.back (p.forward s) ≡ s
  pub redone : (s : Bytes) → Block s → p.forward (p.back s) ≡ s

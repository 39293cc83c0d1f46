-- What a crypt method means, its law, and what its calls answer.
use Rattle.std.specs.Prelude.{◌≡◌, ℕ, Bool, true, false, cond, length, Some, Ok, Err, Result}
use Rattle.byte_strings.specs.Bytes.{Bytes, Octets}
use Rattle.methods.specs.declared.key_kind.KeyKind.{KeyKind}
use Rattle.methods.specs.declared.refusal.MethodRefusal.{MethodRefusal}
use Rattle.methods.specs.declared.refusal.MethodRefusal.TheVariants.{KeyLength}
use Rattle.methods.specs.Refusal.{given}
use Rattle.methods.specs.Running.{Residual}

-- what a crypt method is
pub record Scheme : Type 0 where
  -- the key that it takes
  pub takes : KeyKind
  -- whether it admits a key, by the key's length
  pub admits : ℕ → Bool
  -- what protecting stores, from the key, the start vector and the data
  pub stored : Bytes → Bytes → Bytes → Bytes
  -- the length of that, from the length of the data
  pub size : ℕ → ℕ
  -- from the key to a restoring before its first byte; what is ahead of it is whole restoring
  pub restoring : Bytes → Residual

-- an admitted key, a start vector and data, all of them bytes
pub record Sound (m : Scheme) (k v d : Bytes) : Type 0 where
  pub admitted : m.admits (length k) ≡ true
  pub sixteen : length v ≡ 16
  pub key : Octets k
  pub vector : Octets v
  pub content : Octets d

-- The stored length is exact, and restoring what was protected gives the original.
pub record Lawful (m : Scheme) : Type 0 where
  pub sized : (k v d : Bytes) → Sound m k v d → length (m.stored k v d) ≡ m.size (length d)
  pub restores : (k v d : Bytes) → Sound m k v d → (m.restoring k).ahead (m.stored k v d) ≡ Some d

-- what protecting gives
abbrev pub protecting : Scheme → Bytes → Bytes → Bytes → Result Bytes MethodRefusal
protecting m k v d = cond (m.admits (length k)) (Ok (m.stored k v d)) (Err KeyLength)

-- what whole restoring gives
abbrev pub restoring : Scheme → Bytes → Bytes → Result Bytes MethodRefusal
restoring m k x = cond (m.admits (length k)) (given ((m.restoring k).ahead x)) (Err KeyLength)

-- what starting answers: under an admitted key, a state with the whole restoring ahead
abbrev pub Starts : {S : Type 0} → (S → Residual) → Scheme → Bytes → Result S MethodRefusal → Type 0
Starts means m k (Ok s) = (m.admits (length k) ≡ true) × (means s ≡ m.restoring k)
Starts means m k (Err e) = (m.admits (length k) ≡ false) × (e ≡ KeyLength)

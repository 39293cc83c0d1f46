-- RC4 by its public description: the key schedule, the generator, and what a cipher state makes of the bytes fed to it.
use Rattle.std.specs.Prelude.{◌≡◌, ℕ, zero, suc, ◌+◌, ◌%◌, ◌<◌, ◌≤◌, [], ◌∷◌, ◌++◌, length, Some, None, Option, bit_xor, slice_index, slice_set}
use Rattle.std.specs.List.{range_with_len}
use Rattle.std.specs.List.Sorted.{IsPermutation}
use Rattle.byte_strings.specs.Bytes.{Bytes, Writes}
use Rattle.rc4.specs.declared.Rc4.{Rc4}

-- entries i and j trade places
abbrev pub swapped : Bytes → ℕ → ℕ → Bytes
swapped s i j = slice_set (slice_set s i (slice_index s j)) j (slice_index s i)

-- the numbers from 0 to 255
unfoldable pub identity : Bytes
identity = range_with_len 0 256

-- the table of the key schedule, and its running index j
pub record Schedule : Type 0 where
  pub table : Bytes
  pub index : ℕ

-- j after round i: it grows by the entry i and the key byte i, counted round the key
abbrev pub moved : Bytes → ℕ → Schedule → ℕ
moved key i c = (c.index + slice_index c.table i + slice_index key (i % length key)) % 256

-- round i: the entries i and j trade places
abbrev pub round : Bytes → ℕ → Schedule → Schedule
round key i c = record { table = swapped c.table i (moved key i c); index = moved key i c }

-- the schedule after its first n rounds
unfoldable pub rounds : Bytes → ℕ → Schedule
rounds key zero = record { table = identity; index = 0 }
rounds key (suc n) = round key n (rounds key n)

-- the cipher that a key starts
unfoldable pub keyed : Bytes → Rc4
keyed key = record { a = 0; b = 0; s = (rounds key 256).table }

-- one step of the generator: a grows by 1, b by the entry at a, and the entries at a and b trade places
abbrev pub next_a : Rc4 → ℕ
next_a c = (c.a + 1) % 256

abbrev pub next_b : Rc4 → ℕ
next_b c = (c.b + slice_index c.s (next_a c)) % 256

unfoldable pub next : Rc4 → Rc4
next c = record { a = next_a c; b = next_b c; s = swapped c.s (next_a c) (next_b c) }

-- the key byte of the state that a step has reached: the entry at the sum of the two traded values
unfoldable pub key_byte : Rc4 → ℕ
key_byte c = slice_index c.s ((slice_index c.s c.a + slice_index c.s c.b) % 256)

-- what the cipher makes of the bytes: each is XORed with the key byte of a step
abbrev pub stream : Rc4 → Bytes → Bytes
stream c [] = []
stream c (x ∷ xs) = bit_xor x (key_byte (next c)) ∷ stream (next c) xs

-- the state once it has been fed the bytes
abbrev pub after : Rc4 → Bytes → Rc4
after c [] = c
after c (x ∷ xs) = after (next c) xs

-- RC4 under a key, from its start
abbrev pub rc4 : Bytes → Bytes → Bytes
rc4 key bytes = stream (keyed key) bytes

-- what feeding bytes into an output buffer answers, and what it leaves in the state and in the buffer
abbrev pub Applied : Rc4 → Bytes → Bytes → Rc4 → Bytes → Option ℕ → Type 0
Applied c bytes old c' new None = (length old < length bytes) × (c' ≡ c) × (new ≡ old)
Applied c bytes old c' new (Some n) =
    (length bytes ≤ length old) × (n ≡ length bytes) × (c' ≡ after c bytes) × Writes (stream c bytes) old new

-- only the joining of the pieces matters
abbrev pub Joins : Type 0
Joins = (c : Rc4) (p r : Bytes) → (stream c (p ++ r) ≡ stream c p ++ stream (after c p) r) × (after c (p ++ r) ≡ after (after c p) r)

-- applied twice under one key, it gives the original
abbrev pub Undoes : Type 0
Undoes = (key bytes : Bytes) → rc4 key (rc4 key bytes) ≡ bytes

-- whatever was fed, the table is a rearrangement of the numbers from 0 to 255
abbrev pub HoldsEachOnce : Type 0
HoldsEachOnce = (key bytes : Bytes) → IsPermutation identity (after (keyed key) bytes).s

-- Bytes as lists of numbers, and what a call leaves in a buffer that was lent to it.
use Rattle.std.specs.Prelude.{◌≡◌, ℕ, ◌<◌, List, ◌++◌, length, drop, replicate, slice_index}

-- what a slice holds
abbrev pub Bytes : Type 0
Bytes = List ℕ

-- every element is below 256; a law that goes by values needs this said, since a list of numbers may hold more
abbrev pub Octets : Bytes → Type 0
Octets x = (i : ℕ) → slice_index x i < 256

-- n bytes of zero
abbrev pub zeros : ℕ → Bytes
zeros n = replicate n 0

-- w stands at the front of the buffer, and the rest of the buffer is as it was
abbrev pub Writes : Bytes → Bytes → Bytes → Type 0
Writes w old new = new ≡ w ++ drop (length w) old

-- The end of what a chained restoring has taken in, and what one block more does to it.
use Rattle.std.specs.Prelude.{ℕ, [], length, Some, None, Option}
use Rattle.byte_strings.specs.Bytes.{Bytes}
use Rattle.aes.specs.BlockCipher.{Permutation}
use Rattle.cbc.specs.Blocks.{xor_blocks}
use Rattle.cbc.specs.Pad.{padding_of, cut_by}
use Rattle.chained.specs.declared.last.Last.{Last}
use Rattle.chained.specs.declared.last.Last.TheVariants.{Nothing, Vector, Restored}

-- the length of the restored block; 16 where there is none
abbrev pub width : Last → ℕ
width Nothing = 16
width (Vector v) = 16
width (Restored stored plain) = length plain

-- how many blocks are complete, the start vector among them; two stands for two or more
abbrev pub complete : Last → ℕ
complete Nothing = 0
complete (Vector v) = 1
complete (Restored stored plain) = 2

-- one block more
abbrev pub advanced : Permutation → Last → Bytes → Last
advanced p Nothing b = Vector b
advanced p (Vector v) b = Restored b (xor_blocks (p.back b) v)
advanced p (Restored stored plain) b = Restored b (xor_blocks (p.back b) stored)

-- what one block more sets free: the block that was held back
abbrev pub released : Last → Bytes
released Nothing = []
released (Vector v) = []
released (Restored stored plain) = plain

-- x without its padding
abbrev pub unpadded : Bytes → Bytes
unpadded x = cut_by (padding_of x) x

-- what closing hands out: the block that was held back, without its padding
abbrev pub ended : Last → Option Bytes
ended Nothing = None
ended (Vector v) = Some []
ended (Restored stored plain) = Some (unpadded plain)

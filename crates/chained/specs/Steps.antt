-- What a chained restoring still has to do, by how far it has come.
use Rattle.std.specs.Prelude.{◌+◌, ◌-◌, ◌*◌, ◌/◌, min, true, [], ◌++◌, length, take, Some, None, Option}
use Rattle.byte_strings.specs.Bytes.{Bytes}
use Rattle.aes.specs.BlockCipher.{Permutation}
use Rattle.cbc.specs.Chaining.{unchained, decrypted}
use Rattle.methods.specs.Running.{Residual}
use Rattle.chained.specs.declared.last.Last.{Last}
use Rattle.chained.specs.declared.last.Last.TheVariants.{Nothing, Vector, Restored}
use Rattle.chained.specs.declared.progress.Progress.{Progress}
use Rattle.chained.specs.ChainedMethod.{recovered}
use Rattle.chained.specs.Last.{complete, unpadded}

-- what is still to be handed out, from the bytes behind the last complete block
abbrev pub remaining : Permutation → Last → Bytes → Option Bytes
remaining p Nothing x = recovered p x
remaining p (Vector v) x = Some (decrypted p true v x)
remaining p (Restored stored plain) x = Some (unpadded (plain ++ unchained p.back (length x / 16) stored x))

-- the bytes of the block that is coming
abbrev pub arrived : Progress → Bytes
arrived s = take s.filled s.part

-- what is left to do behind the last complete block, with these bytes of the block that is coming
abbrev pub behind : Permutation → Last → Bytes → Residual
behind p last part = record {
  ahead = λ x. remaining p last (part ++ x);
  hands = λ n. (complete last + (length part + n) / 16 - 2) * 16;
  closing = (complete last - 1) * 16;
  later = λ n. min 1 (complete last + (length part + n) / 16 - 1) * 16;
  steady = true;
}

abbrev pub underway : Permutation → Progress → Residual
underway p s = behind p s.last (arrived s)

-- the bytes that are there, if any
abbrev pub listed : Option Bytes → Bytes
listed None = []
listed (Some b) = b

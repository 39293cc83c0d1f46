-- How much a chained restoring has handed out once bytes were fed to it in pieces.
use Rattle.std.specs.Prelude.{◌≡◌, List, [], ◌∷◌, ◌++◌, length}
use Rattle.byte_strings.specs.Bytes.{Bytes}
use Rattle.aes.specs.BlockCipher.{Permutation}
use Rattle.methods.specs.Running.{Residual, Feeds}
use Rattle.chained.specs.ChainedMethod.{handed_out, held_back, unchaining}

-- a piece that was fed, and what it handed out
pub record Feeding : Type 0 where
  pub piece : Bytes
  pub out : Bytes

-- The feedings, one after another, led from q to t.
abbrev pub Feedings : Residual → List Feeding → Residual → Type 0
Feedings q [] t = t ≡ q
Feedings q (f ∷ fs) t = (s : Residual) × (Feeds q f.piece f.out s × Feedings s fs t)

-- the pieces joined, and what they handed out
abbrev pub intake : List Feeding → Bytes
intake [] = []
intake (f ∷ fs) = f.piece ++ intake fs

abbrev pub output : List Feeding → Bytes
output [] = []
output (f ∷ fs) = f.out ++ output fs

-- However the bytes fall into pieces: with b complete blocks behind the start vector 16 × (b − 1) bytes are out,
-- none if b is 0, and closing wants 16 bytes if b is above 0, else none.
abbrev pub ByLength : Type 0
ByLength =
    (p : Permutation) (fs : List Feeding) (t : Residual) → Feedings (unchaining p) fs t →
    (length (output fs) ≡ handed_out (length (intake fs))) × (t.closing ≡ held_back (length (intake fs)))

-- Pieces of 16, 16, 16 and 5 bytes hand out 0, 0, 16 and 0.
abbrev pub FourPieces : Type 0
FourPieces =
    (p : Permutation) (a b c d : Feeding) (t : Residual) → Feedings (unchaining p) (a ∷ b ∷ c ∷ d ∷ []) t →
    length a.piece ≡ 16 → length b.piece ≡ 16 → length c.piece ≡ 16 → length d.piece ≡ 5 →
    (length a.out ≡ 0) × (length b.out ≡ 0) × (length c.out ≡ 16) × (length d.out ≡ 0)

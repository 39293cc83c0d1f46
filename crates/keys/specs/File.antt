-- The file key: Algorithm 2.
use Rattle.std.specs.Prelude.{ℕ, zero, suc, Bool, cond, [], ◌∷◌, ◌++◌, take, ℤ}
use Rattle.byte_strings.specs.Bytes.{Bytes}
use Rattle.md5_digest.specs.Md5.{md5}
use Rattle.keys.specs.declared.inputs.Revision.{Revision}
use Rattle.keys.specs.declared.inputs.Revision.TheVariants.{R2, R3, R4}
use Rattle.keys.specs.declared.inputs.Inputs.{Inputs}
use Rattle.keys.specs.Numbers.{low_bytes_of}

-- what a file key is derived from, beside the password
pub record Basis : Type 0 where
  pub revision : Revision
  -- the number of bytes of the key
  pub n : ℕ
  pub o : Bytes
  pub p : ℤ
  -- the file identifier
  pub id : Bytes
  -- whether metadata is encrypted
  pub metadata : Bool

abbrev pub read : Inputs → Basis
read i = record { revision = i.revision; n = i.size.n; o = i.o.now; p = i.p; id = i.id.now; metadata = i.metadata }

-- step (f): four bytes more, for revision 4 and metadata that is not encrypted
abbrev pub open_metadata : Revision → Bool → Bytes
open_metadata R2 metadata = []
open_metadata R3 metadata = []
open_metadata R4 metadata = cond metadata [] (0xFF ∷ 0xFF ∷ 0xFF ∷ 0xFF ∷ [])

-- steps (b) to (g): what is digested first
abbrev pub hashed : Basis → Bytes → Bytes
hashed b password = password ++ (b.o ++ (low_bytes_of 4 b.p ++ (b.id ++ open_metadata b.revision b.metadata)))

-- the digest of the first n bytes, k times over
unfoldable pub again : ℕ → ℕ → Bytes → Bytes
again n zero x = x
again n (suc k) x = md5 (take n (again n k x))

-- step (h): how often, from revision 3 on
abbrev pub turns : Revision → ℕ
turns R2 = 0
turns R3 = 50
turns R4 = 50

-- the key of n bytes, from the padded password
unfoldable pub file_key : Basis → Bytes → Bytes
file_key b password = take b.n (again b.n (turns b.revision) (md5 (hashed b password)))

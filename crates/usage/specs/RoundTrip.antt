-- A paper that was set up and opened, and bytes that were protected in it and restored.
use Rattle.std.specs.Prelude.{◌≡◌, ℕ, [], ◌∷◌, codes, length, take, Some, None, Ok, Err, Option, Result}
use Rattle.std.specs.Option.{option_map}
use denote.Ref.{Bor}
use Rattle.byte_strings.specs.Bytes.{Bytes, zeros}
use Rattle.filters.specs.declared.tag.Tag.{Tag}
use Rattle.filters.specs.declared.table.FilterEntry.{FilterEntry}
use Rattle.methods.specs.Method.{Scheme}
use Rattle.opening.specs.declared.fields.Fields.{Fields}
use Rattle.opening.specs.declared.file.File.{File}
use Rattle.opening.specs.declared.refusal.Refusal.{Refusal}
use Rattle.opening.specs.File.{viewed}
use Rattle.opening.specs.Laws.{with_u}
use Rattle.opening.specs.Open.{Opens}
use Rattle.opening.specs.SetUp.{SetsUp}
use Rattle.reader.specs.declared.object.Object.{Object}
use Rattle.reader.specs.declared.output.Mark.TheVariants.{Restored}
use Rattle.reader.specs.declared.output.Output.{Output}
use Rattle.reader.specs.Object.{Gives, Protects, Restores, handed}
use Rattle.promises.specs.Promises.{SameFile}
use Rattle.usage.specs.declared.round_trip.Pair.{Pair}
use Rattle.usage.specs.declared.round_trip.Settings.{Settings}

-- the one filter of the paper, whose name and method text are the block's two halves
abbrev pub std_cf : FilterEntry
std_cf = record { name = record { offset = 0; len = 5 }; method = record { offset = 5; len = 5 } }

-- the fields of the paper that the settings choose, by their values; U is not there yet
pub record PaperOf (s : Settings) (f : Fields) : Type 0 where
  pub filter : option_map (λ (b : Bor Bytes). b.now) f.filter ≡ Some (codes "Standard")
  pub v : f.v ≡ Some s.v
  pub r : f.r ≡ Some s.r
  pub long : f.length ≡ s.length
  pub streams : option_map (λ (b : Bor Bytes). b.now) f.stm_f ≡ Some (codes "StdCF")
  pub strings : option_map (λ (b : Bor Bytes). b.now) f.str_f ≡ Some (codes "StdCF")
  pub owner : option_map (λ (b : Bor Bytes). b.now) f.o ≡ Some s.o
  pub user : f.u ≡ None
  pub permissions : f.p ≡ Some s.p
  pub metadata : f.encrypt_metadata ≡ s.encrypt_metadata
  pub id : f.id.now ≡ s.id
  pub block : f.table.block.now ≡ codes "StdCFAESV2"
  pub entries : f.table.entries.now ≡ std_cf ∷ []

-- the file that was set up and the answer of opening
abbrev pub PairOf : File → Result File Refusal → Result Pair Refusal → Type 0
PairOf made (Ok file) r = r ≡ Ok (record { made = made; file = file })
PairOf made (Err e) r = r ≡ Err e

-- Opening with the U that setting up wrote, where setting up was accepted. The work area is clear by then.
abbrev pub AndOpens : (Bytes → Option Tag) → Fields → Bytes → Bytes → ℕ → Result File Refusal → Result Pair Refusal → Bytes → Type 0
AndOpens series f password u work (Err e) r after = (r ≡ Err e) × (after ≡ zeros work)
AndOpens series f password u work (Ok made) r after =
    (b : Bor Bytes) × (b.now ≡ take 32 u) × ((opening : Result File Refusal) × Opens series (with_u f b) password (zeros work) opening after × PairOf made opening r)

-- the paper of the settings was set up, and opened with its U
abbrev pub Reopened : (Bytes → Option Tag) → Settings → Bytes → Bytes → Result Pair Refusal → Bytes → Type 0
Reopened series s password work r after =
    (f : Fields) × PaperOf s f × ((made : Result File Refusal) × ((u : Bytes) × SetsUp series f password work (zeros 32) made (zeros (length work)) u × AndOpens series f password u (length work) made r after))

-- the two files are the same, and what either protects comes back from both
abbrev pub OpenedAgain : {M : Type 0} → (M → Scheme) → Result Pair Refusal → Type 0
OpenedAgain scheme (Ok p) = SameFile scheme (viewed p.made) (viewed p.file)
OpenedAgain scheme (Err e) = Unit {0}

-- Restoring from the file that was opened what the other stored, where that was accepted.
abbrev pub AndRestores : Pair → Scheme → Object → Result ℕ Refusal → Bytes → Bytes → Result Output Refusal → Bytes → Type 0
AndRestores p m o (Ok n) stored old r new = Restores (viewed p.file) (handed m) o (take n stored) old r new
AndRestores p m o (Err e) stored old r new = (r ≡ Err e) × (new ≡ old)

-- bytes were protected in the one file by a method, and restored from the other
abbrev pub Carried : Pair → Scheme → Object → Bytes → Bytes → Bytes → Bytes → Bytes → Result Output Refusal → Bytes → Type 0
Carried p m o vector original stored stored_after old r new =
    (n : Result ℕ Refusal) × Protects (viewed p.made) (handed m) o vector original stored n stored_after × AndRestores p m o n stored_after old r new

-- the same, where there are two files; otherwise nothing is written
abbrev pub CarriedFrom : Result Pair Refusal → Scheme → Object → Bytes → Bytes → Bytes → Bytes → Bytes → Result Output Refusal → Bytes → Type 0
CarriedFrom (Ok p) m o vector original stored stored_after old r new = Carried p m o vector original stored stored_after old r new
CarriedFrom (Err e) m o vector original stored stored_after old r new = (r ≡ Err e) × (stored_after ≡ stored) × (new ≡ old)

-- the bytes came back whole, at the front of the buffer; on a refusal it stays
abbrev pub Returned : Bytes → Bytes → Result Output Refusal → Bytes → Type 0
Returned original old (Ok o) new = Gives Restored (Some original) old (Ok o) new
Returned original old (Err e) new = new ≡ old

-- What the definitions of opening and setting up come to, in the words of ISO 32000-1, 7.6: which fields and passwords
-- are accepted, by which key and U, with no regard to the order of the checks.
use Rattle.std.specs.Prelude.{◌≡◌, ℕ, ◌≤◌, true, length, ℤ, Some, Ok, Err, codes, Option, Result}
use Rattle.std.specs.Borrow.{Bor}
use Rattle.byte_strings.specs.Bytes.{Bytes}
use Rattle.filters.specs.declared.tag.Tag.{Tag}
use Rattle.filters.specs.Series.{Named, Knows, Below}
use Rattle.filters.specs.Table.{table_of}
use Rattle.filters.specs.Laws.{Exactly, Sound}
use Rattle.keys.specs.declared.inputs.Revision.{Revision}
use Rattle.keys.specs.declared.inputs.Revision.TheVariants.{R2, R3, R4}
use Rattle.keys.specs.Password.{padded}
use Rattle.keys.specs.File.{Basis, file_key}
use Rattle.keys.specs.User.{user_entry, agrees}
use Rattle.opening.specs.declared.checks.Version.{Version}
use Rattle.opening.specs.declared.checks.Version.TheVariants.{V1, V2, V4}
use Rattle.opening.specs.declared.fields.Fields.{Fields}
use Rattle.opening.specs.declared.file.Tags.{Tags}
use Rattle.opening.specs.declared.refusal.Refusal.{Refusal}
use Rattle.opening.specs.Fields.{or_yes}
use Rattle.opening.specs.File.{Opened}
use Rattle.opening.specs.Checks.{key_length, tag_by, rc4_tags}
use Rattle.opening.specs.Making.{filled}
use Rattle.opening.specs.Open.{opened}
use Rattle.opening.specs.SetUp.{Made, set_up}

-- the values of V
abbrev pub version_number : Version → ℕ
version_number V1 = 1
version_number V2 = 2
version_number V4 = 4

-- and of R
abbrev pub revision_number : Revision → ℕ
revision_number R2 = 2
revision_number R3 = 3
revision_number R4 = 4

-- the filter table keeps its rule, and gives the tags of the filters that StrF and StmF name
pub record ByTable (series : Bytes → Option Tag) (f : Fields) (t : Tags) : Type 0 where
  pub sound : Sound (table_of f.table) f.table.entries.now
  pub str : Bor Bytes
  pub stm : Bor Bytes
  pub has_str : f.str_f ≡ Some str
  pub has_stm : f.stm_f ≡ Some stm
  pub tags : t ≡ record { string = tag_by series f str.now; stream = tag_by series f stm.now }

-- RC4, unless the filter table is to tell
abbrev pub Tagged : (Bytes → Option Tag) → Fields → Version → Tags → Type 0
Tagged series f V1 t = t ≡ rc4_tags
Tagged series f V2 t = t ≡ rc4_tags
Tagged series f V4 t = ByTable series f t

-- fields that a file can be opened or set up with: Filter is `Standard`, V is 1, 2 or 4, R is 2, 3 or 4, O and P are there,
-- the key has 1 to 16 bytes, and the tags are told
pub record Fit (series : Bytes → Option Tag) (f : Fields) : Type 0 where
  pub filter : Bor Bytes
  pub version : Version
  pub revision : Revision
  pub o : Bor Bytes
  pub p : ℤ
  pub tags : Tags
  pub has_filter : f.filter ≡ Some filter
  pub standard : filter.now ≡ codes "Standard"
  pub has_v : f.v ≡ Some (version_number version)
  pub has_r : f.r ≡ Some (revision_number revision)
  pub has_o : f.o ≡ Some o
  pub has_p : f.p ≡ Some p
  pub some : 1 ≤ key_length version f.length
  pub most : key_length version f.length ≤ 16
  pub tagged : Tagged series f version tags

-- what Algorithm 2 derives the file key from, beside the password
abbrev pub basis : (series : Bytes → Option Tag) (f : Fields) → Fit series f → Basis
basis series f a = record { revision = a.revision; n = key_length a.version f.length; o = a.o.now; p = a.p; id = f.id.now; metadata = or_yes f.encrypt_metadata }

-- the key of Algorithm 2
abbrev pub key_by : (series : Bytes → Option Tag) (f : Fields) → Fit series f → Bytes → Bytes
key_by series f a password = file_key (basis series f a) (padded password)

-- the file under that key, which V 4 fills with zeros to 16 bytes
abbrev pub file_by : (series : Bytes → Option Tag) (f : Fields) → Fit series f → Bytes → Opened
file_by series f a password = record { key = filled a.version (key_length a.version f.length) (key_by series f a password); tags = a.tags }

-- the fields are fit, and U agrees with the key
pub record Accepts (series : Bytes → Option Tag) (f : Fields) (password : Bytes) (x : Opened) : Type 0 where
  pub fit : Fit series f
  pub u : Bor Bytes
  pub has_u : f.u ≡ Some u
  pub agree : agrees fit.revision f.id.now (key_by series f fit password) u.now ≡ true
  pub file : x ≡ file_by series f fit password

-- the fields are fit, and U is that of Algorithm 4 or 5
pub record Sets (series : Bytes → Option Tag) (f : Fields) (password : Bytes) (m : Made) : Type 0 where
  pub fit : Fit series f
  pub file : m.file ≡ file_by series f fit password
  pub entry : m.entry ≡ user_entry fit.revision f.id.now (key_by series f fit password)

-- the same fields, with this U
abbrev pub with_u : Fields → Bor Bytes → Fields
with_u f u = record {
  filter = f.filter;
  v = f.v;
  r = f.r;
  length = f.length;
  stm_f = f.stm_f;
  str_f = f.str_f;
  o = f.o;
  u = Some u;
  p = f.p;
  encrypt_metadata = f.encrypt_metadata;
  id = f.id;
  table = f.table;
}

-- the same key, and each tag of the first is that of the second or unresolved
pub record Narrower (x y : Opened) : Type 0 where
  pub key : x.key ≡ y.key
  pub string : Below x.tags.string y.tags.string
  pub stream : Below x.tags.stream y.tags.stream

-- two answers: the same refusal, or values that are so related
abbrev pub Both : {A B : Type 0} → (A → B → Type 0) → Result A Refusal → Result B Refusal → Type 0
Both Related (Ok x) (Ok y) = Related x y
Both Related (Ok x) (Err e) = ⊥
Both Related (Err d) (Ok y) = ⊥
Both Related (Err d) (Err e) = d ≡ e

-- two answers of opening: the same refusal, or the same file but for unresolved tags
abbrev pub Alike : Result Opened Refusal → Result Opened Refusal → Type 0
Alike x y = Both Narrower x y

pub record OpeningLaws : Type 0 where
  -- opening accepts exactly where the fields are fit and U agrees
  pub accepted : (series : Bytes → Option Tag) (f : Fields) (password : Bytes) (work : ℕ) (x : Opened) → Exactly (opened series f password work ≡ Ok x) ((32 ≤ work) × Accepts series f password x)
  -- setting up exactly where they are fit and there is space
  pub set : (series : Bytes → Option Tag) (f : Fields) (password : Bytes) (work space : ℕ) (m : Made) → Exactly (set_up series f password work space ≡ Ok m) ((32 ≤ work) × (32 ≤ space) × Sets series f password m)
  -- a file that was set up opens with its U and password, and is the same
  pub opens : (series : Bytes → Option Tag) (f : Fields) (password : Bytes) (work space : ℕ) (m : Made) → set_up series f password work space ≡ Ok m → (u : Bor Bytes) (area : ℕ) → u.now ≡ m.entry → 32 ≤ area → opened series (with_u f u) password area ≡ Ok m.file
  -- under V 4 the key has 16 bytes
  pub long : (series : Bytes → Option Tag) (f : Fields) (password : Bytes) (work : ℕ) (x : Opened) → opened series f password work ≡ Ok x → f.v ≡ Some 4 → length x.key ≡ 16
  -- a smaller series answers as a larger, but for tags that it leaves unresolved
  pub narrower : (small large : Bytes → Option Tag) → Named small → Named large → Knows small large → (f : Fields) (password : Bytes) (work : ℕ) → Alike (opened small f password work) (opened large f password work)

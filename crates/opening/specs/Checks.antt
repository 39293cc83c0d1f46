-- The checks that opening and setting up share: each in its place, with its refusal.
use Rattle.std.specs.Prelude.{ℕ, ◌/◌, Bool, true, false, cond, not, Some, None, Ok, Err, codes, Option, Result, ◌==◌, nat_lt}
use Rattle.std.specs.Option.{unwrap_or}
use Rattle.std.specs.Str.{bytes_eq}
use Rattle.byte_strings.specs.Bytes.{Bytes}
use Rattle.filters.specs.declared.tag.Tag.{Tag}
use Rattle.filters.specs.declared.tag.Tag.TheVariants as tag
use Rattle.filters.specs.Table.{table_of, bad_entry}
use Rattle.filters.specs.Lookup.{looked_up, tag_of}
use Rattle.keys.specs.declared.inputs.Revision.{Revision}
use Rattle.keys.specs.Inputs.{revision_of}
use Rattle.opening.specs.declared.checks.Version.{Version}
use Rattle.opening.specs.declared.checks.Version.TheVariants.{V1, V2, V4}
use Rattle.opening.specs.declared.checks.Head.{Head}
use Rattle.opening.specs.declared.checks.Limits.{Limits}
use Rattle.opening.specs.declared.fields.Fields.{Fields}
use Rattle.opening.specs.declared.file.Tags.{Tags}
use Rattle.opening.specs.declared.refusal.Field.{Field}
use Rattle.opening.specs.declared.refusal.Field.TheVariants.{Filter, V, R, StmF, StrF}
use Rattle.opening.specs.declared.refusal.Refusal.{Refusal}
use Rattle.opening.specs.declared.refusal.Refusal.TheVariants.{Missing, NotStandard, OtherV, BadTable, ShortLength, LateR, LongLength, EarlyR}

-- refuses where the test holds, and else goes on
abbrev pub refuse : {A : Type 0} → Bool → Refusal → Result A Refusal → Result A Refusal
refuse true e go = Err e
refuse false e go = go

-- goes on with the value, and refuses where there is none
abbrev pub given : {A B : Type 0} → Option A → Refusal → (A → Result B Refusal) → Result B Refusal
given (Some x) e go = go x
given None e go = Err e

-- a field that is needed
abbrev pub need : {A B : Type 0} → Field → Option A → (A → Result B Refusal) → Result B Refusal
need f o go = given o (Missing f) go

-- no entry of the filter table is bad
abbrev pub sound : {A : Type 0} → Option ℕ → Result A Refusal → Result A Refusal
sound (Some i) go = Err (BadTable i)
sound None go = go

-- some checks, and then others
abbrev pub and_then : {A B : Type 0} → Result A Refusal → (A → Result B Refusal) → Result B Refusal
and_then (Ok x) go = go x
and_then (Err e) go = Err e

-- V is 1, 2 or 4
abbrev pub version_of : ℕ → Option Version
version_of v = cond (v == 1) (Some V1) (cond (v == 2) (Some V2) (cond (v == 4) (Some V4) None))

-- and any other number is refused
abbrev pub version_from : ℕ → Result Version Refusal
version_from v = given (version_of v) OtherV (λ version. Ok version)

-- the file key's length in bits: 40 for V 1, Length or 40 for V 2, Length or 128 for V 4
abbrev pub bit_length : Version → Option ℕ → ℕ
bit_length V1 n = 40
bit_length V2 n = unwrap_or n 40
bit_length V4 n = unwrap_or n 128

-- and in bytes
abbrev pub key_length : Version → Option ℕ → ℕ
key_length v n = bit_length v n / 8

-- Filter names the standard security handler
abbrev pub standard : Fields → Result (Unit {0}) Refusal
standard f =
    need Filter f.filter (λ filter.
    refuse (not (bytes_eq filter.now (codes "Standard"))) NotStandard (
    Ok tt))

-- a filter's tag by the filter table
abbrev pub tag_by : (Bytes → Option Tag) → Fields → Bytes → Option Tag
tag_by series f name = tag_of (looked_up series (table_of f.table) name)

-- the tags by the filter table, and by StmF and StrF
abbrev pub listed_tags : (Bytes → Option Tag) → Fields → Result Tags Refusal
listed_tags series f =
    sound (bad_entry (table_of f.table)) (
    need StmF f.stm_f (λ stm.
    need StrF f.str_f (λ str.
    Ok (record { string = tag_by series f str.now; stream = tag_by series f stm.now }))))

-- RC4 for both
abbrev pub rc4_tags : Tags
rc4_tags = record { string = Some tag.V2; stream = Some tag.V2 }

-- the tags: RC4, unless the filter table is to tell
abbrev pub tags_of : (Bytes → Option Tag) → Fields → Version → Result Tags Refusal
tags_of series f V1 = Ok rc4_tags
tags_of series f V2 = Ok rc4_tags
tags_of series f V4 = listed_tags series f

-- the checks from Filter to the key's length
abbrev pub admitted : (Bytes → Option Tag) → Fields → Result Head Refusal
admitted series f =
    and_then (standard f) (λ _.
    need V f.v (λ v.
    need R f.r (λ r.
    given (version_of v) OtherV (λ version.
    and_then (tags_of series f version) (λ tags.
    refuse (key_length version f.length == 0) ShortLength (
    Ok (record { version = version; r = r; n = key_length version f.length; tags = tags })))))))

-- the checks of R and of the key's length
abbrev pub limited : Head → Result (Revision × ℕ) Refusal
limited h =
    refuse (nat_lt 4 h.r) LateR (
    refuse (nat_lt 16 h.n) LongLength (
    refuse (nat_lt h.r 2) EarlyR (
    Ok (revision_of h.r, h.n))))

-- the answer of these checks as numbers
abbrev pub limit_of : Result Limits Refusal → Result (Revision × ℕ) Refusal
limit_of (Ok l) = Ok (l.revision, l.size.n)
limit_of (Err e) = Err e

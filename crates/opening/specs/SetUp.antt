-- Setting up: the checks of opening without those of U, the file, and the U by which it opens.
use Rattle.std.specs.Prelude.{◌≡◌, ℕ, ◌++◌, length, drop, Ok, Err, Option, Result, nat_lt}
use Rattle.byte_strings.specs.Bytes.{Bytes, zeros}
use Rattle.filters.specs.declared.tag.Tag.{Tag}
use Rattle.keys.specs.Password.{padded}
use Rattle.keys.specs.File.{Basis, file_key}
use Rattle.keys.specs.User.{user_entry}
use Rattle.opening.specs.declared.checks.Head.{Head}
use Rattle.opening.specs.declared.fields.Fields.{Fields}
use Rattle.opening.specs.declared.file.File.{File}
use Rattle.opening.specs.declared.refusal.Field.TheVariants.{O}
use Rattle.opening.specs.declared.refusal.Refusal.{Refusal}
use Rattle.opening.specs.declared.refusal.Refusal.TheVariants.{WorkSpace, USpace}
use Rattle.opening.specs.File.{Opened, read_file}
use Rattle.opening.specs.Checks.{refuse, need, and_then, admitted}
use Rattle.opening.specs.Making.{new_file}
use Rattle.opening.specs.Inputs.{derived}

-- what setting up makes: the file, and its U
pub record Made : Type 0 where
  pub file : Opened
  pub entry : Bytes

-- from what the checks leave and what the key is derived from
abbrev pub made : Head → Basis → Bytes → Made
made h b padded = record { file = new_file h b.n (file_key b padded); entry = user_entry b.revision b.id (file_key b padded) }

-- the check of the space for U, which is the last
abbrev pub finished : Head → Basis → Bytes → ℕ → Result Made Refusal
finished h b padded space = refuse (nat_lt space 32) USpace (Ok (made h b padded))

-- setting up with a work area and a buffer for U of that many bytes: the checks in their order
abbrev pub set_up : (Bytes → Option Tag) → Fields → Bytes → ℕ → ℕ → Result Made Refusal
set_up series f password work space =
    refuse (nat_lt work 32) WorkSpace (
    and_then (admitted series f) (λ h.
    need O f.o (λ o.
    and_then (derived f h o.now) (λ b.
    finished h b (padded password) space))))

-- the file alone
abbrev pub made_file : Result Made Refusal → Result Opened Refusal
made_file (Ok m) = Ok m.file
made_file (Err e) = Err e

-- the buffer for U afterwards
abbrev pub written : Result Made Refusal → Bytes → Bytes
written (Ok m) out = m.entry ++ drop (length m.entry) out
written (Err e) out = out

-- an answer, and the buffer for U before and after, are as told
pub record Makes (told : Result Made Refusal) (r : Result File Refusal) (old new : Bytes) : Type 0 where
  pub result : read_file r ≡ made_file told
  pub wrote : new ≡ written told old

-- a call of setting up: its answer and U, and the work area after it
pub record SetsUp (series : Bytes → Option Tag) (f : Fields) (password work out : Bytes) (r : Result File Refusal) (after u : Bytes) : Type 0 where
  pub makes : Makes (set_up series f password (length work) (length out)) r out u
  pub zeroed : after ≡ zeros (length work)

-- Opening: every check in its order, and the file that is left.
use Rattle.std.specs.Prelude.{◌≡◌, ℕ, not, length, Ok, Option, Result, nat_lt}
use Rattle.byte_strings.specs.Bytes.{Bytes, zeros}
use Rattle.filters.specs.declared.tag.Tag.{Tag}
use Rattle.keys.specs.Password.{padded}
use Rattle.keys.specs.File.{Basis, file_key}
use Rattle.keys.specs.User.{agrees}
use Rattle.opening.specs.declared.checks.Head.{Head}
use Rattle.opening.specs.declared.fields.Fields.{Fields}
use Rattle.opening.specs.declared.file.File.{File}
use Rattle.opening.specs.declared.refusal.Field.TheVariants.{O, U}
use Rattle.opening.specs.declared.refusal.Refusal.{Refusal}
use Rattle.opening.specs.declared.refusal.Refusal.TheVariants.{WorkSpace, WrongPassword}
use Rattle.opening.specs.File.{Opened, read_file}
use Rattle.opening.specs.Checks.{refuse, need, and_then, admitted}
use Rattle.opening.specs.Inputs.{derived}
use Rattle.opening.specs.Making.{new_file}

-- the check of U, which is the last: the key is filled behind it
abbrev pub authenticated : Head → Basis → Bytes → Bytes → Result Opened Refusal
authenticated h b padded u =
    refuse (not (agrees b.revision b.id (file_key b padded) u)) WrongPassword (
    Ok (new_file h b.n (file_key b padded)))

-- opening with a work area of that many bytes: the checks in their order
abbrev pub opened : (Bytes → Option Tag) → Fields → Bytes → ℕ → Result Opened Refusal
opened series f password work =
    refuse (nat_lt work 32) WorkSpace (
    and_then (admitted series f) (λ h.
    need O f.o (λ o.
    need U f.u (λ u.
    and_then (derived f h o.now) (λ b.
    authenticated h b (padded password) u.now)))))

-- a call of opening: its answer, and the work area after it
pub record Opens (series : Bytes → Option Tag) (f : Fields) (password work : Bytes) (r : Result File Refusal) (after : Bytes) : Type 0 where
  pub result : read_file r ≡ opened series f password (length work)
  pub zeroed : after ≡ zeros (length work)

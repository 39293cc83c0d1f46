-- What Algorithm 2 derives the file key from, beside the password.
use Rattle.std.specs.Prelude.{ℕ, Ok, Err, ℤ, Result}
use Rattle.byte_strings.specs.Bytes.{Bytes}
use Rattle.keys.specs.declared.inputs.Revision.{Revision}
use Rattle.keys.specs.declared.inputs.Inputs.{Inputs}
use Rattle.keys.specs.File.{Basis, read}
use Rattle.opening.specs.declared.checks.Head.{Head}
use Rattle.opening.specs.declared.fields.Fields.{Fields}
use Rattle.opening.specs.declared.refusal.Field.TheVariants.{P}
use Rattle.opening.specs.declared.refusal.Refusal.{Refusal}
use Rattle.opening.specs.Fields.{or_yes}
use Rattle.opening.specs.Checks.{need, and_then, limited}

-- by the fields, the revision and the key's number of bytes, O and P
abbrev pub basis_of : Fields → Revision × ℕ → Bytes → ℤ → Basis
basis_of f l o p = record { revision = l.0; n = l.1; o = o; p = p; id = f.id.now; metadata = or_yes f.encrypt_metadata }

-- the checks of P, of R and of the key's length, and that
abbrev pub derived : Fields → Head → Bytes → Result Basis Refusal
derived f h o =
    need P f.p (λ p.
    and_then (limited h) (λ l.
    Ok (basis_of f l o p)))

-- the answer of these checks, with what the code's inputs hold
abbrev pub read_inputs : Result Inputs Refusal → Result Basis Refusal
read_inputs (Ok i) = Ok (read i)
read_inputs (Err e) = Err e

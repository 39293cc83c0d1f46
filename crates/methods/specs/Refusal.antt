-- What a call that hands out bytes, or refuses, answers and leaves in its buffer.
use Rattle.std.specs.Prelude.{◌≡◌, ℕ, length, Some, None, Ok, Err, Option, Result}
use Rattle.byte_strings.specs.Bytes.{Bytes, Writes}
use Rattle.methods.specs.declared.refusal.MethodRefusal.{MethodRefusal}
use Rattle.methods.specs.declared.refusal.MethodRefusal.TheVariants.{TooShort}

-- what restores gives its bytes; nothing is too short
abbrev pub given : Option Bytes → Result Bytes MethodRefusal
given (Some w) = Ok w
given None = Err TooShort

-- The call answers the count of what it hands out, which stands at the front of the buffer, the rest of which stays;
-- or it refuses, and the buffer stays.
abbrev pub Gives : Result Bytes MethodRefusal → Bytes → Result ℕ MethodRefusal → Bytes → Type 0
Gives (Ok w) old r new = (r ≡ Ok (length w)) × Writes w old new
Gives (Err e) old r new = (r ≡ Err e) × (new ≡ old)

-- Cases: a call, and the answer that it should have.
use Rattle.std.specs.Prelude.{◌≡◌, ◌++◌, codes, Some, None, Option}
use Rattle.byte_strings.specs.Bytes.{Bytes}

-- the call and the answer have ` => ` between them; where there is no answer, the call is the line
abbrev pub CaseParts : Bytes → Bytes → Option Bytes → Type 0
CaseParts line call (Some answer) = line ≡ call ++ (codes " => " ++ answer)
CaseParts line call None = call ≡ line

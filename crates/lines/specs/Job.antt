-- Lines that make no call.
use Rattle.std.specs.Prelude.{Bool, true, [], ◌∷◌, ◌==◌}
use Rattle.byte_strings.specs.Bytes.{Bytes}

-- an empty line, or a comment, which begins with `#`, 35
abbrev pub is_quiet : Bytes → Bool
is_quiet [] = true
is_quiet (x ∷ xs) = x == 35

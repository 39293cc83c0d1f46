-- The check of a buffer's space.
use Rattle.std.specs.Prelude.{◌≡◌, ℕ, ◌<◌, ◌≤◌, Ok, Err, Result}
use Rattle.opening.specs.declared.refusal.Refusal.{Refusal}
use Rattle.opening.specs.declared.refusal.Refusal.TheVariants.{NoSpace}

-- n bytes are needed, and the buffer has this length
abbrev pub Spaced : ℕ → ℕ → Result (Unit {0}) Refusal → Type 0
Spaced n len (Ok x) = n ≤ len
Spaced n len (Err e) = (len < n) × (e ≡ NoSpace)

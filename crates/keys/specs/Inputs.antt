-- The revision that a number names.
use Rattle.std.specs.Prelude.{ℕ, cond, Ok, Err, Result, nat_lt, ◌==◌}
use Rattle.keys.specs.declared.inputs.Revision.{Revision}
use Rattle.keys.specs.declared.inputs.Revision.TheVariants.{R2, R3, R4}
use Rattle.keys.specs.declared.inputs.RevisionError.{RevisionError}
use Rattle.keys.specs.declared.inputs.RevisionError.TheVariants.{TooLow, TooHigh}

-- R from 2 to 4 as a revision
abbrev pub revision_of : ℕ → Revision
revision_of r = cond (r == 2) R2 (cond (r == 3) R3 R4)

-- the revision, or why there is none
abbrev pub revision_from : ℕ → Result Revision RevisionError
revision_from r = cond (nat_lt r 2) (Err TooLow) (cond (nat_lt 4 r) (Err TooHigh) (Ok (revision_of r)))

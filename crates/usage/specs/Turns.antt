-- Two runs of one file, the first by a tag and the second by a method, fed and closed in turns.
use Rattle.std.specs.Prelude.{◌≡◌, ◌⊎◌, ℕ, false, List, [], ◌∷◌, length, Ok, Err, Result}
use Rattle.byte_strings.specs.Bytes.{Bytes}
use Rattle.methods.specs.Method.{Scheme}
use Rattle.opening.specs.declared.file.Target.{Target}
use Rattle.opening.specs.declared.refusal.Refusal.{Refusal}
use Rattle.opening.specs.declared.refusal.Refusal.TheVariants.{KeyLength}
use Rattle.opening.specs.File.{Opened}
use Rattle.reader.specs.declared.object.Object.{Object}
use Rattle.reader.specs.declared.output.Output.{Output}
use Rattle.reader.specs.Object.{Choice, tagged, handed, scheme_of, key_under, Begun}
use Rattle.reader.specs.Run.{Standing, Fed, Shut}
use Rattle.promises.specs.Calls.{Action, Call, feeding, closing}
use Rattle.promises.specs.Promises.{AsRestoring}
use Rattle.usage.specs.declared.turns.Turns.{Turns}

abbrev pub call : ℕ → Action → Bytes → Bytes → Call
call i action before after = record { run = i; action = action; before = before; after = after }

-- the calls in their order, with the pieces and the buffers before and after
abbrev pub calls : Turns → Bytes → Bytes → Bytes → Bytes → Bytes → Bytes → Bytes → Bytes → Bytes → Bytes → List Call
calls t p q w w-after x x_after y y_after z z-after =
    call 0 (feeding p t.first_fed) w w-after ∷
    call 1 (feeding q t.second_fed) x x_after ∷
    call 0 (closing t.first_closed) y y_after ∷
    call 1 (closing t.second_closed) z z-after ∷ []

-- run i did under the calls as restoring does
unfoldable pub Followed : Opened → Choice → Object → ℕ → List Call → Type 0
Followed f c o i cs = AsRestoring f c o i cs

-- runs a and b, however they were started, did so under the calls
pub record Turned {M : Type 0} (scheme : M → Scheme) (a b : Standing) (cs : List Call) : Type 0 where
  pub first : (f : Opened) (t : Target) (o : Object) → Begun f (tagged t) o a → Followed f (tagged t) o 0 cs
  pub second : (f : Opened) (m : M) (o : Object) → Begun f (handed (scheme m)) o b → Followed f (handed (scheme m)) o 1 cs

-- The runs that were started by the file's tag and by the method did so; or a starting was refused, for the key alone.
abbrev pub Restoring : Opened → Target → Scheme → Object → Result Turns Refusal → (Turns → List Call) → Type 0
Restoring f t m o (Err e) cs = e ≡ KeyLength
Restoring f t m o (Ok turns) cs = Followed f (tagged t) o 0 (cs turns) × Followed f (handed m) o 1 (cs turns)

-- a run from a was fed a piece and closed, with these answers and these buffers before and after
abbrev pub Ran : Standing → Bytes → Bytes → Result ℕ Refusal → Bytes → Bytes → Result Output Refusal → Bytes → Type 0
Ran a p w fed w-after y closed y_after = (b : Standing) × (c : Standing) × (Fed a p w fed b w-after × Shut b y closed c y_after)

-- the method of a choice does not admit the key that it takes
abbrev pub NotAdmitted : Opened → Choice → Object → Type 0
NotAdmitted f c o = (scheme_of f c).admits (length (key_under (scheme_of f c) f o)) ≡ false

-- What the two runs did, call by call; or a starting was refused, and no buffer was written.
abbrev pub InTurns : Opened → Target → Scheme → Object → Bytes → Bytes → Bytes → Bytes → Bytes → Bytes → Result Turns Refusal → Bytes → Bytes → Bytes → Bytes → Type 0
InTurns f t m o p q w x y z (Ok turns) w-after x_after y_after z-after =
    (a : Standing) × Begun f (tagged t) o a × ((b : Standing) × Begun f (handed m) o b
    × (Ran a p w turns.first_fed w-after y turns.first_closed y_after × Ran b q x turns.second_fed x_after z turns.second_closed z-after))
InTurns f t m o p q w x y z (Err e) w-after x_after y_after z-after =
    (NotAdmitted f (tagged t) o ⊎ NotAdmitted f (handed m) o) × ((w-after ≡ w) × ((x_after ≡ x) × ((y_after ≡ y) × (z-after ≡ z))))

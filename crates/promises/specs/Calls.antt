-- Several runs, started, fed and closed in any turns.
use Rattle.std.specs.Prelude.{◌≡◌, ℕ, cond, List, [], ◌∷◌, ◌++◌, take, Some, Ok, Err, Option, Result, ◌==◌, ◌≢◌}
use Rattle.byte_strings.specs.Bytes.{Bytes}
use Rattle.opening.specs.declared.refusal.Refusal.{Refusal}
use Rattle.reader.specs.declared.output.Mark.{Mark}
use Rattle.reader.specs.declared.output.Output.{Output}
use Rattle.reader.specs.Run.{Standing, Fed, Shut}

-- what is called, and what it answered; a feeding with its piece
pub data Action : Type 0 where
  starting : Action
  feeding : Bytes → Result ℕ Refusal → Action
  closing : Result Output Refusal → Action

-- a call on one of the runs, with its buffer before and after
pub record Call : Type 0 where
  pub run : ℕ
  pub action : Action
  pub before : Bytes
  pub after : Bytes

-- The run a answered the call, and is b after it: as feeding and closing say. A starting puts any run under its number.
abbrev pub Answered : Action → Standing → Bytes → Bytes → Standing → Type 0
Answered starting a before after b = Unit {0}
Answered (feeding p r) a before after b = Fed a p before r b after
Answered (closing r) a before after b = Shut a before r b after

-- The calls led from the runs f to the runs g. A call changes no other run.
abbrev pub Goes : (ℕ → Standing) → List Call → (ℕ → Standing) → Type 0
Goes f [] g = (i : ℕ) → g i ≡ f i
Goes f (c ∷ cs) g =
    (h : ℕ → Standing) ×
    (Answered c.action (f c.run) c.before c.after (h c.run) × ((j : ℕ) → (j ≢ c.run) → h j ≡ f j) × Goes h cs g)

-- the piece of an accepted feeding
abbrev pub taken : Action → Bytes
taken starting = []
taken (feeding p (Ok n)) = p
taken (feeding p (Err e)) = []
taken (closing r) = []

-- what an accepted feeding or closing handed out
abbrev pub given_out : Action → Bytes → Bytes
given_out starting after = []
given_out (feeding p (Ok n)) after = take n after
given_out (feeding p (Err e)) after = []
given_out (closing (Ok o)) after = take o.count after
given_out (closing (Err e)) after = []

-- the mark of an accepted closing
abbrev pub marked : Action → List Mark
marked starting = []
marked (feeding p r) = []
marked (closing (Ok o)) = o.mark ∷ []
marked (closing (Err e)) = []

-- what the calls on run i come to, joined in call order
abbrev pub along : {X : Type 0} → (Call → List X) → ℕ → List Call → List X
along part i [] = []
along part i (c ∷ cs) = cond (c.run == i) (part c) [] ++ along part i cs

-- a run's intake: the pieces of its accepted feedings
abbrev pub intake : ℕ → List Call → Bytes
intake = along (λ c. taken c.action)

-- its output: what they and its accepted closing handed out
abbrev pub output : ℕ → List Call → Bytes
output = along (λ c. given_out c.action c.after)

-- the marks of its accepted closings
abbrev pub closings : ℕ → List Call → List Mark
closings = along (λ c. marked c.action)

abbrev pub Continues : Action → Type 0
Continues starting = ⊥
Continues (feeding p r) = Unit {0}
Continues (closing r) = Unit {0}

-- the list of run i begins after its starting: no call of it starts the run again
abbrev pub StartedBefore : ℕ → List Call → Type 0
StartedBefore i [] = Unit {0}
StartedBefore i (c ∷ cs) = (c.run ≡ i → Continues c.action) × StartedBefore i cs

-- What run i did, against whole restoring and its mark.
pub record Agrees (whole : Bytes → Option Bytes) (mark : Mark) (i : ℕ) (cs : List Call) : Type 0 where
  -- until a closing is accepted, the output begins the restoring of the intake with each rest that restores
  pub begins : closings i cs ≡ [] → (rest w : Bytes) → whole (intake i cs ++ rest) ≡ Some w → (v : Bytes) × (w ≡ output i cs ++ v)
  -- once one is, output and mark are those of restoring the intake
  pub ends : (closings i cs ≢ []) → (closings i cs ≡ mark ∷ []) × (whole (intake i cs) ≡ Some (output i cs))

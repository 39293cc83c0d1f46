-- What starting a run and the calls on it answer.
use Rattle.std.specs.Prelude.{◌≡◌, ℕ, ◌<◌, ◌≤◌, Bool, true, false, [], length, Some, None, Ok, Err, Option, Result}
use Rattle.std.specs.Option.{option_map}
use Rattle.byte_strings.specs.Bytes.{Bytes, Writes}
use Rattle.methods.specs.Running.{Residual}
use Rattle.methods.specs.Running as running
use Rattle.opening.specs.declared.refusal.Refusal.{Refusal}
use Rattle.opening.specs.declared.refusal.Refusal.TheVariants.{KeyLength, NoSpace, TooShort}
use Rattle.opening.specs.declared.refusal.Refusal.TheVariants as refusal
use Rattle.reader.specs.declared.output.Mark.{Mark}
use Rattle.reader.specs.declared.output.Output.{Output}
use Rattle.reader.specs.declared.run.Run.{Run}
use Rattle.reader.specs.declared.run.Event.{Event}
use Rattle.reader.specs.declared.run.Event.TheVariants.{Feed, Close}

-- A run by its meaning: what its running state still has to do, or none once it is closed, and its mark.
pub record Standing : Type 0 where
  pub rest : Option Residual
  pub mark : Mark

abbrev pub standing : {S : Type 0} → (S → Residual) → Run S → Standing
standing means a = record { rest = option_map means a.state; mark = a.mark }

-- a run that was accepted: the key is admitted, and the whole restoring is still to do
abbrev pub Fresh : Bool → Residual → Mark → Standing → Type 0
Fresh admitted restoring mark a = (admitted ≡ true) × (a ≡ record { rest = Some restoring; mark = mark })

-- what starting answers
abbrev pub Started : {S : Type 0} → (S → Residual) → Bool → Residual → Mark → Result (Run S) Refusal → Type 0
Started means admitted restoring mark (Ok a) = Fresh admitted restoring mark (standing means a)
Started means admitted restoring mark (Err e) = (admitted ≡ false) × (e ≡ KeyLength)

-- what a question on an open run answers; none once it is closed
abbrev asked-at : Option Residual → (Residual → Option ℕ) → Option ℕ
asked-at None question = None
asked-at (Some q) question = question q

abbrev pub asked : Standing → (Residual → Option ℕ) → Option ℕ
asked a = asked-at a.rest

-- a refusal changes neither the run nor the buffer
abbrev pub Refuses : {T : Type 0} → Refusal → Standing → Bytes → Result T Refusal → Standing → Bytes → Type 0
Refuses e a old r b new = (r ≡ Err e) × (b ≡ a) × (new ≡ old)

-- an accepted feeding of p: the count, every byte of the buffer, and the run after it
abbrev pub Takes : Residual → Mark → Bytes → Bytes → Result ℕ Refusal → Standing → Bytes → Type 0
Takes q mark p old r b new =
    (t : Residual) × (n : ℕ) × (running.Fed q p old t n new × (r ≡ Ok n) × (b ≡ record { rest = Some t; mark = mark }))

-- what feeding p answers, by what is still to do
abbrev pub FedAt : Option Residual → Standing → Bytes → Bytes → Result ℕ Refusal → Standing → Bytes → Type 0
FedAt None a p old r b new = Refuses refusal.Closed a old r b new
FedAt (Some q) a p old r b new =
    (length old < q.hands (length p) → Refuses NoSpace a old r b new) ×
    (q.hands (length p) ≤ length old → Takes q a.mark p old r b new)

abbrev pub Fed : Standing → Bytes → Bytes → Result ℕ Refusal → Standing → Bytes → Type 0
Fed a = FedAt a.rest a

-- what closing answers where there is space enough, by what no further byte restores to
abbrev pub Ends : Option Bytes → Standing → Bytes → Result Output Refusal → Standing → Bytes → Type 0
Ends None a old r b new = Refuses TooShort a old r b new
Ends (Some w) a old r b new =
    (r ≡ Ok (record { mark = a.mark; count = length w })) × (b ≡ record { rest = None; mark = a.mark }) × Writes w old new

-- what closing answers, by what is still to do
abbrev pub ShutAt : Option Residual → Standing → Bytes → Result Output Refusal → Standing → Bytes → Type 0
ShutAt None a old r b new = Refuses refusal.Closed a old r b new
ShutAt (Some q) a old r b new =
    (length old < q.closing → Refuses NoSpace a old r b new) ×
    (q.closing ≤ length old → Ends (q.ahead []) a old r b new)

abbrev pub Shut : Standing → Bytes → Result Output Refusal → Standing → Bytes → Type 0
Shut a = ShutAt a.rest a

-- the count of an output
abbrev pub counted : Result Output Refusal → Result ℕ Refusal
counted (Ok o) = Ok o.count
counted (Err e) = Err e

-- what an event answers
abbrev pub Called : Event → Standing → Bytes → Result Output Refusal → Standing → Bytes → Type 0
Called (Feed p) a old r b new = Fed a p.now old (counted r) b new
Called Close a old r b new = Shut a old r b new

-- a run that refuses is the run that it was
abbrev pub Kept : {S T : Type 0} → Run S → Result T Refusal → Run S → Type 0
Kept a (Ok o) b = Unit {0}
Kept a (Err e) b = b ≡ a

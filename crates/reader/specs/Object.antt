-- Protecting, restoring and starting in a file: by its tag for a target, or by a method that is handed in.
use Rattle.std.specs.Prelude.{◌≡◌, ℕ, ◌<◌, ◌≤◌, Bool, true, false, length, Some, None, Ok, Err, Option, Result}
use Rattle.byte_strings.specs.Bytes.{Bytes, Writes}
use Rattle.methods.specs.Running.{Residual, space}
use Rattle.methods.specs.Method.{Scheme}
use Rattle.filters.specs.declared.tag.Tag.{Tag}
use Rattle.opening.specs.declared.file.Target.{Target}
use Rattle.opening.specs.declared.refusal.Refusal.{Refusal}
use Rattle.opening.specs.declared.refusal.Refusal.TheVariants.{Unresolved, KeyLength, NoSpace, TooShort}
use Rattle.opening.specs.File.{Opened, tag_for}
use Rattle.reader.specs.declared.object.Object.{Object}
use Rattle.reader.specs.declared.output.Mark.{Mark}
use Rattle.reader.specs.declared.output.Mark.TheVariants.{Restored}
use Rattle.reader.specs.declared.output.Output.{Output}
use Rattle.reader.specs.declared.run.Run.{Run}
use Rattle.reader.specs.Key.{key_for}
use Rattle.reader.specs.Tag.{scheme_for, mark_for}
use Rattle.reader.specs.Run.{Standing, Fresh, Started}

-- the file's tag for a target, or a method that is handed in
pub data Choice : Type 0 where
  tagged : Target → Choice
  handed : Scheme → Choice

abbrev pub scheme_of : Opened → Choice → Scheme
scheme_of f (tagged t) = scheme_for (tag_for f.tags t)
scheme_of f (handed m) = m

abbrev pub mark_of : Opened → Choice → Mark
mark_of f (tagged t) = mark_for (tag_for f.tags t)
mark_of f (handed m) = Restored

-- the key of an object of the file, as the method takes it
abbrev pub key_under : Scheme → Opened → Object → Bytes
key_under m f o = key_for m.takes f.key o

-- a refusal, with the buffer as it was
abbrev pub Refuses : {T : Type 0} → Refusal → Bytes → Result T Refusal → Bytes → Type 0
Refuses e old r new = (r ≡ Err e) × (new ≡ old)

-- what protecting answers, where n bytes, w, are stored, by whether the key is admitted
abbrev pub Protected : Bool → ℕ → Bytes → Bytes → Result ℕ Refusal → Bytes → Type 0
Protected false n w old r new = Refuses KeyLength old r new
Protected true n w old r new =
    (length old < n → Refuses NoSpace old r new) ×
    (n ≤ length old → (r ≡ Ok (length w)) × Writes w old new)

-- what protecting by a method under a key answers
abbrev pub ProtectsUnder : Scheme → Bytes → Bytes → Bytes → Bytes → Result ℕ Refusal → Bytes → Type 0
ProtectsUnder m k vector original old r new =
    Protected (m.admits (length k)) (m.size (length original)) (m.stored k vector original) old r new

-- what restoring answers where there is space enough
abbrev pub Gives : Mark → Option Bytes → Bytes → Result Output Refusal → Bytes → Type 0
Gives mark None old r new = Refuses TooShort old r new
Gives mark (Some w) old r new = (r ≡ Ok (record { mark = mark; count = length w })) × Writes w old new

-- what restoring x answers, by whether the key is admitted
abbrev pub Recovered : Bool → Residual → Mark → Bytes → Bytes → Result Output Refusal → Bytes → Type 0
Recovered false q mark x old r new = Refuses KeyLength old r new
Recovered true q mark x old r new =
    (length old < space q (length x) → Refuses NoSpace old r new) ×
    (space q (length x) ≤ length old → Gives mark (q.ahead x) old r new)

-- what restoring by a method under a key answers
abbrev pub RestoresUnder : Scheme → Bytes → Mark → Bytes → Bytes → Result Output Refusal → Bytes → Type 0
RestoresUnder m k mark x old r new = Recovered (m.admits (length k)) (m.restoring k) mark x old r new

-- what starting by a method under a key answers
abbrev pub StartsUnder : {S : Type 0} → (S → Residual) → Scheme → Bytes → Mark → Result (Run S) Refusal → Type 0
StartsUnder means m k mark r = Started means (m.admits (length k)) (m.restoring k) mark r

-- a tag must be resolved, and then
abbrev pub Resolved : Option Tag → Bytes → Result ℕ Refusal → Bytes → Type 0 → Type 0
Resolved None old r new then = Refuses Unresolved old r new
Resolved (Some t) old r new then = then

-- a call of protecting, with its buffer before and after
abbrev pub Protects : Opened → Choice → Object → Bytes → Bytes → Bytes → Result ℕ Refusal → Bytes → Type 0
Protects f (tagged t) o vector original old r new =
    Resolved (tag_for f.tags t) old r new (ProtectsUnder (scheme_of f (tagged t)) (key_under (scheme_of f (tagged t)) f o) vector original old r new)
Protects f (handed m) o vector original old r new = ProtectsUnder m (key_under m f o) vector original old r new

-- a call of restoring, with its buffer before and after
abbrev pub Restores : Opened → Choice → Object → Bytes → Bytes → Result Output Refusal → Bytes → Type 0
Restores f c o x old r new = RestoresUnder (scheme_of f c) (key_under (scheme_of f c) f o) (mark_of f c) x old r new

-- a run that a call of starting made
abbrev pub Begun : Opened → Choice → Object → Standing → Type 0
Begun f c o a = Fresh ((scheme_of f c).admits (length (key_under (scheme_of f c) f o))) ((scheme_of f c).restoring (key_under (scheme_of f c) f o)) (mark_of f c) a

-- a call of starting
abbrev pub Begins : {S : Type 0} → (S → Residual) → Opened → Choice → Object → Result (Run S) Refusal → Type 0
Begins means f c o r = StartsUnder means (scheme_of f c) (key_under (scheme_of f c) f o) (mark_of f c) r

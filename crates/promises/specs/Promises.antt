-- What the calls promise together, over every two series and every crypt method.
use Rattle.std.specs.Prelude.{◌≡◌, ℕ, ◌⊎◌, List, [], length, take, Some, Ok, Err, Option, Result, ◌≢◌}
use Rattle.std.specs.Borrow.{Bor}
use Rattle.byte_strings.specs.Bytes.{Bytes, Octets}
use Rattle.filters.specs.declared.tag.Tag.{Tag}
use Rattle.filters.specs.Series.{Knows}
use Rattle.methods.specs.Method.{Scheme}
use Rattle.opening.specs.declared.fields.Fields.{Fields}
use Rattle.opening.specs.declared.file.File.{File}
use Rattle.opening.specs.declared.file.Target.{Target}
use Rattle.opening.specs.declared.refusal.Refusal.{Refusal}
use Rattle.opening.specs.declared.refusal.Refusal.TheVariants.{WorkSpace, USpace, NoSpace}
use Rattle.opening.specs.File.{Opened, viewed}
use Rattle.opening.specs.Open.{Opens}
use Rattle.opening.specs.SetUp.{SetsUp}
use Rattle.opening.specs.Laws.{Both, with_u}
use Rattle.reader.specs.declared.object.Object.{Object}
use Rattle.reader.specs.declared.output.Mark.TheVariants.{Restored, Passed}
use Rattle.reader.specs.declared.output.Output.{Output}
use Rattle.reader.specs.Object.{Choice, tagged, handed, scheme_of, key_under, mark_of, Gives, Protects, Restores, Begun}
use Rattle.reader.specs.Run.{Standing}
use Rattle.promises.specs.Calls.{Call, Goes, StartedBefore, Agrees, intake, output, closings}

-- Space is enough: the answer is none of the refusals for space.
abbrev pub Enough : {T : Type 0} → Result T Refusal → Type 0
Enough r = (r ≢ Err WorkSpace) × (r ≢ Err USpace) × (r ≢ Err NoSpace)

-- under the tag for each target, and under each method
pub record Each {M : Type 0} (scheme : M → Scheme) (P : Choice → Type 0) : Type 0 where
  pub by_tag : (t : Target) → P (tagged t)
  pub by_method : (m : M) → P (handed (scheme m))

-- Bytes protected in x are restored whole from y, under the same object and choice.
abbrev pub ComesBack : Opened → Opened → Choice → Type 0
ComesBack x y c =
    (o : Object) (vector original stored_in stored restored_in restored : Bytes) (n : ℕ) (r : Result Output Refusal) →
    length vector ≡ 16 → Octets vector → Octets original →
    Protects x c o vector original stored_in (Ok n) stored →
    Restores y c o (take n stored) restored_in r restored → Enough r →
    Gives Restored (Some original) restored_in r restored

-- the same key and tags, and what either protects comes back from both
pub record SameFile {M : Type 0} (scheme : M → Scheme) (x y : Opened) : Type 0 where
  pub key_and_tags : y ≡ x
  pub first : Each scheme (ComesBack x x)
  pub across : Each scheme (ComesBack x y)
  pub back : Each scheme (ComesBack y x)
  pub second : Each scheme (ComesBack y y)

-- a. A file that was set up opens in the same series with its fields, the written U and the password.
abbrev pub SetUpOpens : {M : Type 0} → (M → Scheme) → (Bytes → Option Tag) → Type 0
SetUpOpens scheme series =
    (f : Fields) (password work worked out written : Bytes) (a : File) →
    SetsUp series f password work out (Ok a) worked written →
    (u : Bor Bytes) (area cleared : Bytes) (r : Result File Refusal) →
    u.now ≡ take 32 written → Opens series (with_u f u) password area r cleared → Enough r →
    (b : File) × (r ≡ Ok b) × SameFile scheme (viewed a) (viewed b)

-- whole restoring of an object by a choice, under the key that its method takes
abbrev pub whole : Opened → Choice → Object → Bytes → Option Bytes
whole file c o = ((scheme_of file c).restoring (key_under (scheme_of file c) file o)).ahead

-- What run i did under the calls, and what a call of restoring its intake answers once it is closed.
pub record AsRestoring (file : Opened) (c : Choice) (o : Object) (i : ℕ) (cs : List Call) : Type 0 where
  pub agrees : Agrees (whole file c o) (mark_of file c) i cs
  pub restored : (closings i cs ≢ []) → (old new : Bytes) (r : Result Output Refusal) → Restores file c o (intake i cs) old r new → Enough r → Gives (mark_of file c) (Some (output i cs)) old r new

-- b. A run that was started by this choice, whatever the calls on it and on other runs.
abbrev pub RunsAgree : Choice → Type 0
RunsAgree c =
    (file : Opened) (o : Object) (f g : ℕ → Standing) (cs : List Call) → Goes f cs g →
    (i : ℕ) → StartedBefore i cs → Begun file c o (f i) → AsRestoring file c o i cs

-- the same refusal or the same key
abbrev pub SameKey : Result File Refusal → Result File Refusal → Type 0
SameKey = Both (λ a b. (viewed a).key ≡ (viewed b).key)

-- the same refusal, or the same mark, count and bytes
abbrev pub AnswersAs : Result Output Refusal → Bytes → Result Output Refusal → Bytes → Type 0
AnswersAs r x s y = Both (λ p q. (p ≡ q) × (take p.count x ≡ take q.count y)) r s

-- marked passed over unchanged bytes
abbrev pub Passes : Bytes → Result Output Refusal → Bytes → Type 0
Passes x r new = (r ≡ Ok (record { mark = Passed; count = length x })) × (take (length x) new ≡ x)

-- each restoring from x answers as the one from y, or passes the bytes on
abbrev pub RestoresAs : Opened → Opened → Choice → Type 0
RestoresAs x y c =
    (o : Object) (bytes x_old x_new y_old y_new : Bytes) (r s : Result Output Refusal) →
    Restores x c o bytes x_old r x_new → Restores y c o bytes y_old s y_new → Enough r → Enough s →
    AnswersAs r x_new s y_new ⊎ Passes bytes r x_new

-- two answers of opening, by a smaller and a larger series
pub record OpensAs {M : Type 0} (scheme : M → Scheme) (r s : Result File Refusal) : Type 0 where
  pub same : SameKey r s
  pub restores : (a b : File) → r ≡ Ok a → s ≡ Ok b → Each scheme (RestoresAs (viewed a) (viewed b))

-- c. Opening the same fields with the same password in a smaller series and a larger, which knows all that it knows.
abbrev pub SmallerOpens : {M : Type 0} → (M → Scheme) → (Bytes → Option Tag) → (Bytes → Option Tag) → Type 0
SmallerOpens scheme small large =
    Knows small large →
    (f : Fields) (password x_work x_after y_work y_after : Bytes) (r s : Result File Refusal) →
    Opens small f password x_work r x_after → Opens large f password y_work s y_after → Enough r → Enough s →
    OpensAs scheme r s

-- all of it, for every two series of these kinds and every method of this kind
pub record Promises {S L M : Type 0} (small : S → Bytes → Option Tag) (large : L → Bytes → Option Tag) (scheme : M → Scheme) : Type 0 where
  pub set_up_opens : (s : S) → SetUpOpens scheme (small s)
  pub runs_agree : Each scheme RunsAgree
  pub smaller_opens : (s : S) (l : L) → SmallerOpens scheme (small s) (large l)

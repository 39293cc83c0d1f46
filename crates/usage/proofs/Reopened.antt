-- What the promise on setting up says of an opening with the written U.
use Rattle.std.proofs.Common.{◌≡◌, ℕ, take, Ok, Err, Option, Result, sym, subst, arith, Bor}
use Rattle.byte_strings.specs.Bytes.{Bytes, zeros}
use Rattle.filters.specs.declared.tag.Tag.{Tag}
use Rattle.methods.specs.Method.{Scheme}
use Rattle.opening.specs.declared.fields.Fields.{Fields}
use Rattle.opening.specs.declared.file.File.{File}
use Rattle.opening.specs.declared.refusal.Refusal.{Refusal}
use Rattle.opening.specs.declared.refusal.Refusal.TheVariants.{WorkSpace, USpace, NoSpace}
use Rattle.opening.specs.File.{viewed}
use Rattle.opening.specs.Open.{Opens}
use Rattle.opening.specs.SetUp.{SetsUp}
use Rattle.opening.specs.Laws.{with_u}
use Rattle.promises.specs.Promises.{Enough, SameFile, SetUpOpens}
use Rattle.usage.specs.declared.round_trip.Pair.{Pair}
use Rattle.usage.specs.declared.round_trip.Settings.{Settings}
use Rattle.usage.specs.RoundTrip.{PaperOf, PairOf, Reopened}

module _ {M : Type 0} (scheme : M → Scheme) (series : Bytes → Option Tag) (promise : SetUpOpens scheme series)
    (f : Fields) (password work worked out written : Bytes) (a : File) (sets : SetsUp series f password work out (Ok a) worked written)
    (u : Bor Bytes) (area cleared : Bytes) where
  enough_ok : (b : File) → Enough (Ok b)
  enough_ok b = (
    (λ e. (let z : ◌≡◌ {A = ℕ} 0 1 = cc in omega arith)),
    (λ e. (let z : ◌≡◌ {A = ℕ} 0 1 = cc in omega arith)),
    (λ e. (let z : ◌≡◌ {A = ℕ} 0 1 = cc in omega arith)),
  )

  -- an accepted opening is of the file that was set up
  pub reopened : (b : File) → u.now ≡ take 32 written → Opens series (with_u f u) password area (Ok b) cleared → SameFile scheme (viewed a) (viewed b)
  reopened b is opens =
      let r = promise f password work worked out written a sets u area cleared (Ok b) is opens (enough_ok b) in
      let same : b ≡ r.0 = cc r.1 in
      subst (λ x. SameFile scheme (viewed a) (viewed x)) (sym same) r.2

  -- a refused one is refused for space
  pub refused_for_space : (e : Refusal) → u.now ≡ take 32 written → Opens series (with_u f u) password area (Err e) cleared → (e ≡ WorkSpace → ⊥) → (e ≡ USpace → ⊥) → (e ≡ NoSpace → ⊥) → ⊥
  refused_for_space e is opens no-work no-u no-space =
      let r = promise f password work worked out written a sets u area cleared (Err e) is opens (
        (λ h. no-work (cc)),
        (λ h. no-u (cc)),
        (λ h. no-space (cc)),
      ) in
      let z : ◌≡◌ {A = ℕ} 0 1 = cc r.1 in omega arith

-- what setting up and opening answered, as it is told
pub reopened_told : (series : Bytes → Option Tag) (s : Settings) (f : Fields) (password work worked written after : Bytes) (made : File)
    → SetsUp series f password work (zeros 32) (Ok made) worked written → PaperOf s f → (b : Bor Bytes) → b.now ≡ take 32 written
    → (opening : Result File Refusal) → Opens series (with_u f b) password worked opening after → (r : Result Pair Refusal) → PairOf made opening r → Reopened series s password work r after
reopened_told series s f password work worked written after made sets paper b is opening opens r pair = (
  f,
  paper,
  (
    Ok made,
    (
      written,
      subst (λ w. SetsUp series f password work (zeros 32) (Ok made) w written) sets.zeroed sets,
      (b, is, (opening, subst (λ w. Opens series (with_u f b) password w opening after) sets.zeroed opens, pair)),
    ),
  ),
)

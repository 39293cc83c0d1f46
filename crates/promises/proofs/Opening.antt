-- Set up, then opened; and opened in a smaller and a larger series.
use Rattle.std.proofs.Common.{◌≡◌, ℕ, ◌<◌, ◌≤◌, ◌++◌, length, take, drop, Ok, Err, Option, Result, sym, refl, ap, ◌∙◌, subst, inl, inr}
use Rattle.std.proofs.lemmas.List.{take_at}
use Rattle.std.proofs.lemmas.Bool.{cases_lt, lt-ltb, le-ltb}
use Rattle.byte_strings.specs.Bytes.{Bytes, Octets}
use Rattle.filters.specs.declared.tag.Tag.{Tag}
use Rattle.filters.specs.Series.{Named}
use Rattle.keys.proofs.KeyLaws.{long}
use Rattle.methods.specs.Method.{Scheme, Lawful}
use Rattle.opening.specs.declared.fields.Fields.{Fields}
use Rattle.opening.specs.declared.file.File.{File}
use Rattle.opening.specs.declared.refusal.Refusal.{Refusal}
use Rattle.opening.specs.declared.refusal.Refusal.TheVariants.{WorkSpace}
use Rattle.opening.specs.File.{Opened, viewed, read_file}
use Rattle.opening.specs.Open.{opened}
use Rattle.opening.specs.SetUp.{Made, set_up, made_file, written}
use Rattle.opening.specs.Laws.{OpeningLaws, Alike, with_u}
use Rattle.promises.specs.Promises.{Enough, SetUpOpens, SameKey, SmallerOpens}
use Rattle.promises.proofs.Keys.{set_bytes}
use Rattle.promises.proofs.Runs.{clash}
use Rattle.promises.proofs.Answering.{same_file, restores_as}

work_short : (r : Result File Refusal) → read_file r ≡ Err WorkSpace → Enough r → ⊥
work_short (Ok a) e _ = clash _ _ e
work_short (Err d) e (work, _, _) = work (let f : d ≡ WorkSpace = cc in ap Err f)

-- with space enough, the work area has 32 bytes or more
work_enough : (series : Bytes → Option Tag) (f : Fields) (password : Bytes) (work : ℕ) (r : Result File Refusal) → read_file r ≡ opened series f password work → Enough r → 32 ≤ work
work_enough series f password work r is enough =
    let short : work < 32 → opened series f password work ≡ Err WorkSpace = λ less. simp (lt-ltb work 32 less) in
    elim (cases_lt work 32) [ inl less ↦ absurd (work_short r (is ∙ short less) enough) | inr more ↦ more ]

-- and then its length plays no part
work_any : (series : Bytes → Option Tag) (f : Fields) (password : Bytes) (x y : ℕ) → 32 ≤ x → 32 ≤ y → opened series f password x ≡ opened series f password y
work_any series f password x y p q = simp (le-ltb x 32 p, le-ltb y 32 q)

read_ok : (r : Result File Refusal) (o : Opened) → read_file r ≡ Ok o → (b : File) × (r ≡ Ok b) × (viewed b ≡ o)
read_ok (Ok b) o e = (b, refl, cc)
read_ok (Err d) o e = absurd (clash _ _ (sym e))

made_ok : (r : Result Made Refusal) (o : Opened) → Ok o ≡ made_file r → (m : Made) × (r ≡ Ok m) × (o ≡ m.file)
made_ok (Ok m) o h = (m, refl, cc)
made_ok (Err e) o h = absurd (clash _ _ h)

same_key : (r s : Result File Refusal) → Alike (read_file r) (read_file s) → SameKey r s
same_key (Ok a) (Ok b) h = h.key
same_key (Ok a) (Err e) h = h
same_key (Err d) (Ok b) h = h
same_key (Err d) (Err e) h = h

module _ (laws : OpeningLaws) {M : Type 0} (scheme : M → Scheme) where
  pub set_up_opens : ((m : M) → Lawful (scheme m)) → (series : Bytes → Option Tag) → SetUpOpens scheme series
  set_up_opens lawful series f password work worked out entry a sets u area cleared r u-is opens enough =
      let told = set_up series f password (length work) (length out) in
      let m = made_ok told (viewed a) sets.makes.result in
      let s = ((laws.set series f password (length work) (length out) m.0).to m.1).2 in
      let own = m.0.entry in
      let sized : length own ≡ 32 = ap length s.entry ∙ long _ _ _ in
      let wrote : entry ≡ own ++ drop (length own) out = sets.makes.wrote ∙ ap (λ x. written x out) m.1 in
      let u_own : u.now ≡ own = u-is ∙ ap (take 32) wrote ∙ take_at own (drop (length own) out) 32 sized in
      let room = work_enough series (with_u f u) password (length area) r opens.result enough in
      let read = opens.result ∙ laws.opens series f password (length work) (length out) m.0 m.1 u (length area) u_own room in
      let b = read_ok r m.0.file read in
      let octets = subst (λ x. Octets x.key) (sym m.2) (set_bytes series f password m.0 s) in
      (b.0, b.1, same_file scheme lawful (viewed a) (viewed b.0) octets (b.2 ∙ sym m.2))

  pub smaller_opens : (small large : Bytes → Option Tag) → Named small → Named large → SmallerOpens scheme small large
  smaller_opens small large small_named large_named knows f password x_work x_after y_work y_after r s x-opens y-opens x-enough y-enough =
      let x_room = work_enough small f password (length x_work) r x-opens.result x-enough in
      let y_room = work_enough large f password (length y_work) s y-opens.result y-enough in
      let same = y-opens.result ∙ work_any large f password (length y_work) (length x_work) y_room x_room in
      let alike : Alike (read_file r) (read_file s) = subst (λ y. Alike (read_file r) y) (sym same) (subst (λ x. Alike x (opened large f password (length x_work))) (sym x-opens.result) (laws.narrower small large small_named large_named knows f password (length x_work))) in
      record {
        same = same_key r s alike;
        restores = λ a b r_is s-is. restores_as scheme (viewed a) (viewed b) (subst (λ y. Alike (Ok (viewed a)) (read_file y)) s-is (subst (λ x. Alike (read_file x) (read_file s)) r_is alike));
      }

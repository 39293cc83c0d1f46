-- Opening accepts exactly where the fields are fit and U agrees.
use Rattle.std.proofs.Common.{◌≡◌, ℕ, ◌-◌, ◌≤◌, true, not, ltb, length, Some, Ok, Option, Result, sym, ap, ◌∙◌, subst, arith, Bor}
use Rattle.std.proofs.lemmas.List.{length-append, length-replicate}
use Rattle.std.proofs.lemmas.Bool.{not-false, ltb-false, le-ltb}
use Rattle.byte_strings.specs.Bytes.{Bytes, zeros}
use Rattle.filters.specs.declared.tag.Tag.{Tag}
use Rattle.filters.specs.Laws.{Exactly}
use Rattle.keys.specs.Password.{padded}
use Rattle.keys.specs.File.{Basis, file_key}
use Rattle.keys.specs.User.{agrees}
use Rattle.keys.proofs.KeyLaws.{length-file_key}
use Rattle.opening.specs.declared.checks.Head.{Head}
use Rattle.opening.specs.declared.checks.Version.{Version}
use Rattle.opening.specs.declared.checks.Version.TheVariants.{V1, V2, V4}
use Rattle.opening.specs.declared.fields.Fields.{Fields}
use Rattle.opening.specs.declared.refusal.Field.TheVariants.{O, U}
use Rattle.opening.specs.declared.refusal.Refusal.{Refusal}
use Rattle.opening.specs.declared.refusal.Refusal.TheVariants.{WorkSpace, Missing, WrongPassword}
use Rattle.opening.specs.File.{Opened}
use Rattle.opening.specs.Checks.{refuse, need, and_then, admitted, key_length}
use Rattle.opening.specs.Making.{filled, new_file}
use Rattle.opening.specs.Inputs.{derived}
use Rattle.opening.specs.Open.{authenticated, opened}
use Rattle.opening.specs.Laws.{version_number, basis, key_by, file_by, Accepts}
use Rattle.opening.proofs.Passing.{refuse_ok, given_ok, then_ok}
use Rattle.opening.proofs.Fitting.{fit_from, head_by, admitted_passes, derived_passes}

module _ (series : Bytes → Option Tag) (f : Fields) (password : Bytes) where
  -- the check of U was passed
  authenticated_is : (h : Head) (b : Basis) (u : Bytes) (x : Opened) → authenticated h b (padded password) u ≡ Ok x → (agrees b.revision b.id (file_key b (padded password)) u ≡ true) × (x ≡ new_file h b.n (file_key b (padded password)))
  authenticated_is h b u x e =
      let made = new_file h b.n (file_key b (padded password)) in
      let a = refuse_ok (not (agrees b.revision b.id (file_key b (padded password)) u)) WrongPassword (Ok made) x e in
      let is : x ≡ made = cc a.1 in
      (not-false _ a.0, is)

  -- all checks were passed
  accepts_from : (h : Head) (b : Basis) (o u : Bor Bytes) (x : Opened) → admitted series f ≡ Ok h → f.o ≡ Some o → f.u ≡ Some u → derived f h o.now ≡ Ok b → authenticated h b (padded password) u.now ≡ Ok x → Accepts series f password x
  accepts_from h b o u x head has_o has_u derives e =
      let c = authenticated_is h b u.now x e in
      let s = fit_from series f h b o head has_o derives in
      let own = basis series f s.fit in
      record {
        fit = s.fit;
        u = u;
        has_u = has_u;
        agree = subst (λ b. agrees b.revision b.id (file_key b (padded password)) u.now ≡ true) s.same_basis c.0;
        file = c.1 ∙ ap (λ b. new_file h b.n (file_key b (padded password))) s.same_basis ∙ s.same_file own.n (file_key own (padded password));
      }

  accepts : (work : ℕ) (x : Opened) → opened series f password work ≡ Ok x → (32 ≤ work) × Accepts series f password x
  accepts work x e =
      let last : Head → Bor Bytes → Basis → Result Opened Refusal = λ h u b. authenticated h b (padded password) u.now in
      let at_basis : Head → Bor Bytes → Bor Bytes → Result Opened Refusal = λ h o u. and_then (derived f h o.now) (last h u) in
      let at_u : Head → Bor Bytes → Result Opened Refusal = λ h o. need U f.u (at_basis h o) in
      let at_o : Head → Result Opened Refusal = λ h. need O f.o (at_u h) in
      let a = refuse_ok (ltb work 32) WorkSpace (and_then (admitted series f) at_o) x e in
      let b = then_ok (admitted series f) at_o x a.1 in
      let h = b.0 in
      let o = given_ok f.o (Missing O) (at_u h) x b.2 in
      let u = given_ok f.u (Missing U) (at_basis h o.0) x o.2 in
      let d = then_ok (derived f h o.0.now) (last h u.0) x u.2 in
      (ltb-false work 32 a.0, accepts_from h d.0 o.0 u.0 x b.1 o.1 u.1 d.1 d.2)

  accepted_by : (work : ℕ) (x : Opened) → (32 ≤ work) × Accepts series f password x → opened series f password work ≡ Ok x
  accepted_by work x (enough, a) =
      let passes : opened series f password work ≡ authenticated (head_by series f a.fit) (basis series f a.fit) (padded password) a.u.now =
      simp (le-ltb work 32 enough, admitted_passes series f a.fit, a.fit.has_o, a.has_u, derived_passes series f a.fit) in
      passes ∙ ap (λ t. refuse (not t) WrongPassword (Ok (file_by series f a.fit password))) a.agree ∙ ap Ok (sym a.file)

pub accepted : (series : Bytes → Option Tag) (f : Fields) (password : Bytes) (work : ℕ) (x : Opened) → Exactly (opened series f password work ≡ Ok x) ((32 ≤ work) × Accepts series f password x)
accepted series f password work x = record { to = accepts series f password work x; from = accepted_by series f password work x }

filled_long : (v : Version) (n : ℕ) (k : Bytes) → version_number v ≡ 4 → length k ≡ n → n ≤ 16 → length (filled v n k) ≡ 16
filled_long V1 n k four l h = absurd (omega arith)
filled_long V2 n k four l h = absurd (omega arith)
filled_long V4 n k four l h = length-append k (zeros (16 - n)) ∙ omega (arith, length-replicate {A = ℕ} (16 - n) 0)

pub long : (series : Bytes → Option Tag) (f : Fields) (password : Bytes) (work : ℕ) (x : Opened) → opened series f password work ≡ Ok x → f.v ≡ Some 4 → length x.key ≡ 16
long series f password work x e v =
    let a = (accepts series f password work x e).1 in
    let fit = a.fit in
    let four : version_number fit.version ≡ 4 = cc fit.has_v in
    let k = key_by series f fit password in
    ap (λ y. length y.key) a.file
    ∙ filled_long fit.version (key_length fit.version f.length) k four (length-file_key (basis series f fit) (padded password) fit.most) fit.most

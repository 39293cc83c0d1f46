-- Setting up accepts exactly where the fields are fit and there is space, and what was set up opens.
use Rattle.std.proofs.Common.{◌≡◌, ℕ, ◌≤◌, true, ltb, Some, Ok, Option, Result, sym, refl, ap, ◌∙◌, Bor}
use Rattle.std.proofs.lemmas.Bool.{ltb-false, le-ltb}
use Rattle.byte_strings.specs.Bytes.{Bytes}
use Rattle.filters.specs.declared.tag.Tag.{Tag}
use Rattle.filters.specs.Laws.{Exactly}
use Rattle.keys.specs.Password.{padded}
use Rattle.keys.specs.File.{Basis, file_key}
use Rattle.keys.specs.User.{agrees}
use Rattle.keys.proofs.KeyLaws.{agree}
use Rattle.opening.specs.declared.checks.Head.{Head}
use Rattle.opening.specs.declared.checks.Version.{Version}
use Rattle.opening.specs.declared.checks.Version.TheVariants.{V1, V2, V4}
use Rattle.opening.specs.declared.fields.Fields.{Fields}
use Rattle.opening.specs.declared.file.Tags.{Tags}
use Rattle.opening.specs.declared.refusal.Field.TheVariants.{O}
use Rattle.opening.specs.declared.refusal.Refusal.{Refusal}
use Rattle.opening.specs.declared.refusal.Refusal.TheVariants.{WorkSpace, USpace, Missing}
use Rattle.opening.specs.Checks.{need, and_then, admitted}
use Rattle.opening.specs.Inputs.{derived}
use Rattle.opening.specs.Open.{opened}
use Rattle.opening.specs.SetUp.{Made, made, finished, set_up}
use Rattle.opening.specs.Laws.{Tagged, Fit, basis, key_by, Sets, with_u}
use Rattle.opening.proofs.Passing.{refuse_ok, given_ok, then_ok}
use Rattle.opening.proofs.Fitting.{fit_from, head_by, admitted_passes, derived_passes}
use Rattle.opening.proofs.Accepting.{accepted}

module _ (series : Bytes → Option Tag) (f : Fields) (password : Bytes) (work space : ℕ) (m : Made) where
  -- all checks were passed
  sets_from : (h : Head) (b : Basis) (o : Bor Bytes) → admitted series f ≡ Ok h → f.o ≡ Some o → derived f h o.now ≡ Ok b → m ≡ made h b (padded password) → Sets series f password m
  sets_from h b o head has_o derives is =
      let s = fit_from series f h b o head has_o derives in
      let own = basis series f s.fit in
      let same = is ∙ ap (λ b. made h b (padded password)) s.same_basis in
      record { fit = s.fit; file = ap (λ x. x.file) same ∙ s.same_file own.n (file_key own (padded password)); entry = ap (λ x. x.entry) same }

  sets : set_up series f password work space ≡ Ok m → (32 ≤ work) × (32 ≤ space) × Sets series f password m
  sets e =
      let last : Head → Basis → Result Made Refusal = λ h b. finished h b (padded password) space in
      let at_basis : Head → Bor Bytes → Result Made Refusal = λ h o. and_then (derived f h o.now) (last h) in
      let at_o : Head → Result Made Refusal = λ h. need O f.o (at_basis h) in
      let a = refuse_ok (ltb work 32) WorkSpace (and_then (admitted series f) at_o) m e in
      let b = then_ok (admitted series f) at_o m a.1 in
      let h = b.0 in
      let o = given_ok f.o (Missing O) (at_basis h) m b.2 in
      let d = then_ok (derived f h o.0.now) (last h) m o.2 in
      let told = made h d.0 (padded password) in
      let c = refuse_ok (ltb space 32) USpace (Ok told) m d.2 in
      let is : m ≡ told = cc c.1 in
      (ltb-false work 32 a.0, ltb-false space 32 c.0, sets_from h d.0 o.0 b.1 o.1 d.1 is)

  set_by : (32 ≤ work) × (32 ≤ space) × Sets series f password m → set_up series f password work space ≡ Ok m
  set_by (enough, room, a) =
      let told = made (head_by series f a.fit) (basis series f a.fit) (padded password) in
      let passes : set_up series f password work space ≡ Ok told =
      simp (le-ltb work 32 enough, admitted_passes series f a.fit, a.fit.has_o, derived_passes series f a.fit, le-ltb space 32 room) in
      let file : told ≡ record { file = m.file; entry = told.entry } = ap (λ x. record { file = x; entry = told.entry }) (sym a.file) in
      let entry : record { file = m.file; entry = told.entry } ≡ m = ap (λ x. record { file = m.file; entry = x }) (sym a.entry) in
      passes ∙ ap Ok file ∙ ap Ok entry

pub set : (series : Bytes → Option Tag) (f : Fields) (password : Bytes) (work space : ℕ) (m : Made) → Exactly (set_up series f password work space ≡ Ok m) ((32 ≤ work) × (32 ≤ space) × Sets series f password m)
set series f password work space m = record { to = sets series f password work space m; from = set_by series f password work space m }

-- U plays no part in the tags
tagged_with : (series : Bytes → Option Tag) (f : Fields) (u : Bor Bytes) (v : Version) (t : Tags) → Tagged series f v t → Tagged series (with_u f u) v t
tagged_with series f u V1 t h = h
tagged_with series f u V2 t h = h
tagged_with series f u V4 t h = record { sound = h.sound; str = h.str; stm = h.stm; has_str = h.has_str; has_stm = h.has_stm; tags = h.tags }

-- nor in whether fields are fit
fit_with : (series : Bytes → Option Tag) (f : Fields) (u : Bor Bytes) → Fit series f → Fit series (with_u f u)
fit_with series f u a = record {
  filter = a.filter;
  version = a.version;
  revision = a.revision;
  o = a.o;
  p = a.p;
  tags = a.tags;
  has_filter = a.has_filter;
  standard = a.standard;
  has_v = a.has_v;
  has_r = a.has_r;
  has_o = a.has_o;
  has_p = a.has_p;
  some = a.some;
  most = a.most;
  tagged = tagged_with series f u a.version a.tags a.tagged;
}

pub opens : (series : Bytes → Option Tag) (f : Fields) (password : Bytes) (work space : ℕ) (m : Made) → set_up series f password work space ≡ Ok m → (u : Bor Bytes) (area : ℕ) → u.now ≡ m.entry → 32 ≤ area → opened series (with_u f u) password area ≡ Ok m.file
unfolding fit_with
opens series f password work space m e u area is enough =
    let s = (sets series f password work space m e).2 in
    let key = key_by series f s.fit password in
    let right : agrees s.fit.revision f.id.now key u.now ≡ true = ap (agrees s.fit.revision f.id.now key) (is ∙ s.entry) ∙ agree s.fit.revision f.id.now key in
    (accepted series (with_u f u) password area m.file).from (enough, record { fit = fit_with series f u s.fit; u = u; has_u = refl; agree = right; file = s.file })

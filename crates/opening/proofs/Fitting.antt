-- The checks that opening and setting up share, against the fields that are fit.
use Rattle.std.proofs.Common.{◌≡◌, ℕ, ◌≤◌, Bool, true, false, cond, not, eqb, ltb, ℤ, Some, None, Ok, codes, Option, Result, sym, refl, ap, ◌∙◌, subst, arith, Bor}
use Rattle.std.specs.Str.{bytes_eq}
use Rattle.std.proofs.lemmas.Slice.Eq.{bytes_eq-Decides}
use Rattle.std.proofs.lemmas.Bool.{not-false, ltb-false, le-ltb, eqb-true, eqb-false, ne_eqb}
use Rattle.byte_strings.specs.Bytes.{Bytes}
use Rattle.filters.specs.declared.tag.Tag.{Tag}
use Rattle.filters.specs.Table.{table_of, bad_entry}
use Rattle.filters.proofs.Rule.{sound as table_sound}
use Rattle.keys.specs.declared.inputs.Revision.{Revision}
use Rattle.keys.specs.declared.inputs.Revision.TheVariants.{R2, R3, R4}
use Rattle.keys.specs.Inputs.{revision_of}
use Rattle.keys.specs.File.{Basis}
use Rattle.opening.specs.declared.checks.Version.{Version}
use Rattle.opening.specs.declared.checks.Version.TheVariants.{V1, V2, V4}
use Rattle.opening.specs.declared.checks.Head.{Head}
use Rattle.opening.specs.declared.fields.Fields.{Fields}
use Rattle.opening.specs.declared.file.Tags.{Tags}
use Rattle.opening.specs.declared.refusal.Field.TheVariants.{Filter, V, R, StmF, StrF, P}
use Rattle.opening.specs.declared.refusal.Refusal.{Refusal}
use Rattle.opening.specs.declared.refusal.Refusal.TheVariants.{Missing, NotStandard, OtherV, ShortLength, LateR, LongLength, EarlyR}
use Rattle.opening.specs.Checks.{refuse, given, need, and_then, version_of, key_length, standard, tag_by, listed_tags, tags_of, admitted, limited}
use Rattle.opening.specs.Making.{filled, new_file}
use Rattle.opening.specs.Inputs.{basis_of, derived}
use Rattle.opening.specs.Laws.{version_number, revision_number, Tagged, Fit, basis}
use Rattle.opening.proofs.Passing.{refuse_ok, given_ok, sound_ok, then_ok}

-- Filter

pub standard_is : (f : Fields) → standard f ≡ Ok tt → (filter : Bor Bytes) × (f.filter ≡ Some filter) × (filter.now ≡ codes "Standard")
standard_is f h =
    let go : Bor Bytes → Result (Unit {0}) Refusal = λ filter. refuse (not (bytes_eq filter.now (codes "Standard"))) NotStandard (Ok tt) in
    let a = given_ok f.filter (Missing Filter) go tt h in
    let b = refuse_ok (not (bytes_eq a.0.now (codes "Standard"))) NotStandard (Ok tt) tt a.2 in
    (a.0, a.1, (bytes_eq-Decides a.0.now (codes "Standard")).0 (not-false _ b.0))

pub standard_passes : (f : Fields) (filter : Bor Bytes) → f.filter ≡ Some filter → filter.now ≡ codes "Standard" → standard f ≡ Ok tt
standard_passes f filter has is =
    let same : bytes_eq filter.now (codes "Standard") ≡ true = (bytes_eq-Decides filter.now (codes "Standard")).1 is in
    simp (has, same)

-- V and R

version_by : (v : ℕ) (a b c : Bool) → eqb v 1 ≡ a → eqb v 2 ≡ b → eqb v 4 ≡ c → (version : Version) → cond a (Some V1) (cond b (Some V2) (cond c (Some V4) None)) ≡ Some version → v ≡ version_number version
version_by v true b c p q r version h = let e : V1 ≡ version = cc in eqb-true v 1 p ∙ ap version_number e
version_by v false true c p q r version h = let e : V2 ≡ version = cc in eqb-true v 2 q ∙ ap version_number e
version_by v false false true p q r version h = let e : V4 ≡ version = cc in eqb-true v 4 r ∙ ap version_number e
version_by v false false false p q r version h = cc

version_is : (v : ℕ) (version : Version) → version_of v ≡ Some version → v ≡ version_number version
version_is v version h = version_by v (eqb v 1) (eqb v 2) (eqb v 4) refl refl refl version h

version_back : (version : Version) → version_of (version_number version) ≡ Some version
version_back V1 = refl
version_back V2 = refl
version_back V4 = refl

revision_by : (r : ℕ) (a b : Bool) → eqb r 2 ≡ a → eqb r 3 ≡ b → 2 ≤ r → r ≤ 4 → r ≡ revision_number (cond a R2 (cond b R3 R4))
revision_by r true b p q from to = eqb-true r 2 p
revision_by r false true p q from to = eqb-true r 3 q
revision_by r false false p q from to = let x = eqb-false r 2 p in let y = eqb-false r 3 q in omega arith

revision_is : (r : ℕ) → 2 ≤ r → r ≤ 4 → r ≡ revision_number (revision_of r)
revision_is r from to = revision_by r (eqb r 2) (eqb r 3) refl refl from to

-- the tags

tags_is : (series : Bytes → Option Tag) (f : Fields) (version : Version) (t : Tags) → tags_of series f version ≡ Ok t → Tagged series f version t
tags_is series f V1 t h = cc
tags_is series f V2 t h = cc
tags_is series f V4 t h =
    let told : Bor Bytes → Bor Bytes → Tags = λ stm str. record { string = tag_by series f str.now; stream = tag_by series f stm.now } in
    let at_str : Bor Bytes → Result Tags Refusal = λ stm. need StrF f.str_f (λ str. Ok (told stm str)) in
    let a = sound_ok (bad_entry (table_of f.table)) (need StmF f.stm_f at_str) t h in
    let b = given_ok f.stm_f (Missing StmF) at_str t a.1 in
    let c = given_ok f.str_f (Missing StrF) (λ str. Ok (told b.0 str)) t b.2 in
    let is : t ≡ told b.0 c.0 = cc c.2 in
    record { sound = (table_sound (table_of f.table)).to a.0; str = c.0; stm = b.0; has_str = c.1; has_stm = b.1; tags = is }

tags_pass : (series : Bytes → Option Tag) (f : Fields) (version : Version) (t : Tags) → Tagged series f version t → tags_of series f version ≡ Ok t
tags_pass series f V1 t h = ap Ok (sym h)
tags_pass series f V2 t h = ap Ok (sym h)
tags_pass series f V4 t h =
    let clean = (table_sound (table_of f.table)).from h.sound in
    let passes : listed_tags series f ≡ Ok (record { string = tag_by series f h.str.now; stream = tag_by series f h.stm.now }) = simp (clean, h.has_stm, h.has_str) in
    passes ∙ ap Ok (sym h.tags)

-- the checks from Filter to the key's length

pub record Headed (series : Bytes → Option Tag) (f : Fields) (h : Head) : Type 0 where
  pub filter : Bor Bytes
  pub has_filter : f.filter ≡ Some filter
  pub standard : filter.now ≡ codes "Standard"
  pub has_v : f.v ≡ Some (version_number h.version)
  pub has_r : f.r ≡ Some h.r
  pub n : h.n ≡ key_length h.version f.length
  pub some : 1 ≤ h.n
  pub tagged : Tagged series f h.version h.tags

-- what these checks leave
abbrev leaves : Fields → ℕ → Version → Tags → Head
leaves f r version t = record { version = version; r = r; n = key_length version f.length; tags = t }

headed_by : (series : Bytes → Option Tag) (f : Fields) (h : Head) (v r : ℕ) (version : Version) (t : Tags) → standard f ≡ Ok tt → f.v ≡ Some v → f.r ≡ Some r → version_of v ≡ Some version → tags_of series f version ≡ Ok t → eqb (key_length version f.length) 0 ≡ false → leaves f r version t ≡ h → Headed series f h
headed_by series f h v r version t filter has_v has_r is-version is-tags not_IsShort is =
    let s = standard_is f filter in
    let own : Headed series f (leaves f r version t) = record {
      filter = s.0;
      has_filter = s.1;
      standard = s.2;
      has_v = has_v ∙ ap Some (version_is v version is-version);
      has_r = has_r;
      n = refl;
      some = (let more = eqb-false (key_length version f.length) 0 not_IsShort in omega arith);
      tagged = tags_is series f version t is-tags;
    } in
    subst (Headed series f) is own

admitted_is : (series : Bytes → Option Tag) (f : Fields) (h : Head) → admitted series f ≡ Ok h → Headed series f h
admitted_is series f h e =
    let at_size : ℕ → Version → Tags → Result Head Refusal = λ r version t. refuse (eqb (key_length version f.length) 0) ShortLength (Ok (leaves f r version t)) in
    let at_tags : ℕ → Version → Result Head Refusal = λ r version. and_then (tags_of series f version) (at_size r version) in
    let at_version : ℕ → ℕ → Result Head Refusal = λ v r. given (version_of v) OtherV (at_tags r) in
    let at_r : ℕ → Result Head Refusal = λ v. need R f.r (at_version v) in
    let a = then_ok (standard f) (λ _. need V f.v at_r) h e in
    let b = given_ok f.v (Missing V) at_r h a.2 in
    let c = given_ok f.r (Missing R) (at_version b.0) h b.2 in
    let d = given_ok (version_of b.0) OtherV (at_tags c.0) h c.2 in
    let t = then_ok (tags_of series f d.0) (at_size c.0 d.0) h d.2 in
    let l = refuse_ok (eqb (key_length d.0 f.length) 0) ShortLength (Ok (leaves f c.0 d.0 t.0)) h t.2 in
    let is : leaves f c.0 d.0 t.0 ≡ h = cc l.1 in
    headed_by series f h b.0 c.0 d.0 t.0 a.1 b.1 c.1 d.1 t.1 l.0 is

-- what fit fields leave of them
abbrev pub head_by : (series : Bytes → Option Tag) (f : Fields) → Fit series f → Head
head_by series f a = record { version = a.version; r = revision_number a.revision; n = key_length a.version f.length; tags = a.tags }

pub admitted_passes : (series : Bytes → Option Tag) (f : Fields) (a : Fit series f) → admitted series f ≡ Ok (head_by series f a)
admitted_passes series f a =
    let some = ne_eqb (key_length a.version f.length) 0 (λ z. (let s = a.some in omega arith)) in
    simp (standard_passes f a.filter a.has_filter a.standard, a.has_v, a.has_r, version_back a.version, tags_pass series f a.version a.tags a.tagged, some)

-- the checks of R and of the key's length

pub record Limited (h : Head) (l : Revision × ℕ) : Type 0 where
  pub early : 2 ≤ h.r
  pub late : h.r ≤ 4
  pub most : h.n ≤ 16
  pub is : l ≡ (revision_of h.r, h.n)

limited_is : (h : Head) (l : Revision × ℕ) → limited h ≡ Ok l → Limited h l
limited_is h l e =
    let told : Revision × ℕ = (revision_of h.r, h.n) in
    let a = refuse_ok (ltb 4 h.r) LateR (refuse (ltb 16 h.n) LongLength (refuse (ltb h.r 2) EarlyR (Ok told))) l e in
    let b = refuse_ok (ltb 16 h.n) LongLength (refuse (ltb h.r 2) EarlyR (Ok told)) l a.1 in
    let c = refuse_ok (ltb h.r 2) EarlyR (Ok told) l b.1 in
    record { early = ltb-false _ _ c.0; late = ltb-false _ _ a.0; most = ltb-false _ _ b.0; is = cc c.1 }

limited_by : (version : Version) (r : Revision) (n : ℕ) (t : Tags) → n ≤ 16 → limited (record { version = version; r = revision_number r; n = n; tags = t }) ≡ Ok (r, n)
limited_by version R2 n t h = simp (le-ltb 16 n h)
limited_by version R3 n t h = simp (le-ltb 16 n h)
limited_by version R4 n t h = simp (le-ltb 16 n h)

pub limited_passes : (series : Bytes → Option Tag) (f : Fields) (a : Fit series f) → limited (head_by series f a) ≡ Ok (a.revision, key_length a.version f.length)
limited_passes series f a = limited_by a.version a.revision (key_length a.version f.length) a.tags a.most

-- what these checks leave with P, for fit fields
pub derived_passes : (series : Bytes → Option Tag) (f : Fields) (a : Fit series f) → derived f (head_by series f a) a.o.now ≡ Ok (basis series f a)
derived_passes series f a = simp (a.has_p, limited_passes series f a)

-- what the checks leave comes from fit fields
pub record From (series : Bytes → Option Tag) (f : Fields) (h : Head) (b : Basis) : Type 0 where
  pub fit : Fit series f
  pub same_basis : b ≡ basis series f fit
  pub same_file : (n : ℕ) (key : Bytes) → new_file h n key ≡ record { key = filled fit.version n key; tags = fit.tags }

pub fit_from : (series : Bytes → Option Tag) (f : Fields) (h : Head) (b : Basis) (o : Bor Bytes) → admitted series f ≡ Ok h → f.o ≡ Some o → derived f h o.now ≡ Ok b → From series f h b
fit_from series f h b o head has_o derives =
    let a = admitted_is series f h head in
    let at_limit : ℤ → Result Basis Refusal = λ p. and_then (limited h) (λ l. Ok (basis_of f l o.now p)) in
    let p = given_ok f.p (Missing P) at_limit b derives in
    let l = then_ok (limited h) (λ l. Ok (basis_of f l o.now p.0)) b p.2 in
    let m = limited_is h l.0 l.1 in
    let limits : l.0 ≡ (revision_of h.r, key_length h.version f.length) = m.is ∙ ap (λ n. (revision_of h.r, n)) a.n in
    let told : b ≡ basis_of f l.0 o.now p.0 = cc l.2 in
    record {
      fit = record {
        filter = a.filter;
        version = h.version;
        revision = revision_of h.r;
        o = o;
        p = p.0;
        tags = h.tags;
        has_filter = a.has_filter;
        standard = a.standard;
        has_v = a.has_v;
        has_r = a.has_r ∙ ap Some (revision_is h.r m.early m.late);
        has_o = has_o;
        has_p = p.1;
        some = (let n = a.n in let s = a.some in omega arith);
        most = (let n = a.n in let s = m.most in omega arith);
        tagged = a.tagged;
      };
      same_basis = told ∙ ap (λ x. basis_of f x o.now p.0) limits;
      same_file = λ n key. refl;
    }

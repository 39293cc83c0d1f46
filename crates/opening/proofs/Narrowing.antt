-- Opening in a smaller and a larger series.
use Rattle.std.proofs.Common.{◌≡◌, ℕ, Bool, true, false, not, eqb, ltb, Some, None, Ok, Err, Option, Result, sym, refl, subst, inl}
use Rattle.byte_strings.specs.Bytes.{Bytes}
use Rattle.filters.specs.declared.tag.Tag.{Tag}
use Rattle.filters.specs.Table.{table_of, bad_entry}
use Rattle.filters.specs.Series.{Named, Knows, Below}
use Rattle.filters.proofs.Narrower.{narrower as found_narrower}
use Rattle.keys.specs.Password.{padded}
use Rattle.keys.specs.File.{Basis, file_key}
use Rattle.keys.specs.User.{agrees}
use Rattle.opening.specs.declared.checks.Head.{Head}
use Rattle.opening.specs.declared.checks.Version.{Version}
use Rattle.opening.specs.declared.checks.Version.TheVariants.{V1, V2, V4}
use Rattle.opening.specs.declared.fields.Fields.{Fields}
use Rattle.opening.specs.declared.file.Tags.{Tags}
use Rattle.opening.specs.declared.refusal.Field.TheVariants.{V, R, StmF, StrF, O, U}
use Rattle.opening.specs.declared.refusal.Refusal.{Refusal}
use Rattle.opening.specs.declared.refusal.Refusal.TheVariants.{Missing, OtherV, ShortLength, WorkSpace, WrongPassword}
use Rattle.opening.specs.File.{Opened}
use Rattle.opening.specs.Checks.{refuse, given, sound, and_then, version_of, key_length, standard, tags_of, admitted}
use Rattle.opening.specs.Inputs.{derived}
use Rattle.opening.specs.Open.{authenticated, opened}
use Rattle.opening.specs.Laws.{Narrower, Both, Alike}

module _ {A B : Type 0} (Related : A → B → Type 0) where
  both-refuse : (b : Bool) (e : Refusal) (x : Result A Refusal) (y : Result B Refusal) → Both Related x y → Both Related (refuse b e x) (refuse b e y)
  both-refuse true e x y h = refl
  both-refuse false e x y h = h

  both-given : {X : Type 0} (o : Option X) (e : Refusal) (x : X → Result A Refusal) (y : X → Result B Refusal) → ((v : X) → Both Related (x v) (y v)) → Both Related (given o e x) (given o e y)
  both-given (Some v) e x y h = h v
  both-given None e x y h = refl

  both-sound : (o : Option ℕ) (x : Result A Refusal) (y : Result B Refusal) → Both Related x y → Both Related (sound o x) (sound o y)
  both-sound (Some i) x y h = refl
  both-sound None x y h = h

  -- behind a check that is the same in both
  both-after : {C : Type 0} (r : Result C Refusal) (x : C → Result A Refusal) (y : C → Result B Refusal) → ((c : C) → Both Related (x c) (y c)) → Both Related (and_then r x) (and_then r y)
  both-after (Ok c) x y h = h c
  both-after (Err e) x y h = refl

both_then : {A B C D : Type 0} (Related : A → B → Type 0) (Next : C → D → Type 0) (x : Result A Refusal) (y : Result B Refusal) (go : A → Result C Refusal) (on : B → Result D Refusal) → Both Related x y → ((a : A) (b : B) → Related a b → Both Next (go a) (on b)) → Both Next (and_then x go) (and_then y on)
both_then Related Next (Ok a) (Ok b) go on h k = k a b h
both_then Related Next (Ok a) (Err e) go on h k = absurd h
both_then Related Next (Err d) (Ok b) go on h k = absurd h
both_then Related Next (Err d) (Err e) go on h k = h

pub record TagsBelow (s t : Tags) : Type 0 where
  pub string : Below s.string t.string
  pub stream : Below s.stream t.stream

-- the same but for the tags
pub record HeadBelow (h k : Head) : Type 0 where
  pub tags : TagsBelow h.tags k.tags
  pub rest : h ≡ record { version = k.version; r = k.r; n = k.n; tags = h.tags }

module _ (small large : Bytes → Option Tag) (small_named : Named small) (large_named : Named large) (knows : Knows small large) (f : Fields) where
  tags_below : (v : Version) → Both TagsBelow (tags_of small f v) (tags_of large f v)
  tags_below V1 = record { string = inl refl; stream = inl refl }
  tags_below V2 = record { string = inl refl; stream = inl refl }
  tags_below V4 =
      both-sound TagsBelow (bad_entry (table_of f.table)) _ _
      (both-given TagsBelow f.stm_f (Missing StmF) _ _ (λ stm.
      both-given TagsBelow f.str_f (Missing StrF) _ _ (λ str. record {
        string = found_narrower small large small_named large_named knows (table_of f.table) str.now;
        stream = found_narrower small large small_named large_named knows (table_of f.table) stm.now;
      })))

  admitted_below : Both HeadBelow (admitted small f) (admitted large f)
  admitted_below =
      both-after HeadBelow (standard f) _ _ (λ _.
      both-given HeadBelow f.v (Missing V) _ _ (λ v.
      both-given HeadBelow f.r (Missing R) _ _ (λ r.
      both-given HeadBelow (version_of v) OtherV _ _ (λ version.
      both_then TagsBelow HeadBelow (tags_of small f version) (tags_of large f version) _ _ (tags_below version) (λ s t below.
      both-refuse HeadBelow (eqb (key_length version f.length) 0) ShortLength _ _ (
      record { tags = below; rest = refl }))))))

  -- the check of U, with heads that differ in their tags alone
  authenticated_below : (h : Head) (t : Tags) (b : Basis) (padded u : Bytes) → TagsBelow t h.tags → Both Narrower (authenticated (record { version = h.version; r = h.r; n = h.n; tags = t }) b padded u) (authenticated h b padded u)
  authenticated_below h t b padded u below =
      both-refuse Narrower (not (agrees b.revision b.id (file_key b padded) u)) WrongPassword _ _ (record { key = refl; string = below.string; stream = below.stream })

  opened_below : (password : Bytes) (work : ℕ) → Both Narrower (opened small f password work) (opened large f password work)
  opened_below password work =
      both-refuse Narrower (ltb work 32) WorkSpace _ _ (
      both_then HeadBelow Narrower (admitted small f) (admitted large f) _ _ admitted_below (λ h k below.
      both-given Narrower f.o (Missing O) _ _ (λ o.
      both-given Narrower f.u (Missing U) _ _ (λ u.
      let go : Head → Result Opened Refusal = λ x. and_then (derived f x o.now) (λ b. authenticated x b (padded password) u.now) in
      subst (λ x. Both Narrower (go x) (go k)) (sym below.rest)
      (both-after Narrower (derived f k o.now) _ _ (λ b. authenticated_below k h.tags b (padded password) u.now below.tags))))))

pub narrower : (small large : Bytes → Option Tag) → Named small → Named large → Knows small large → (f : Fields) (password : Bytes) (work : ℕ) → Alike (opened small f password work) (opened large f password work)
narrower small large small_named large_named knows f password work =
    opened_below small large small_named large_named knows f password work

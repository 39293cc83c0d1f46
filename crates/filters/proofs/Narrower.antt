-- What two series find, of which one knows all that the other knows.
use Rattle.std.proofs.Common.{◌≡◌, Bool, true, false, cond, eqb, ◌⊎◌, Some, None, Option, refl, inl, inr}
use Rattle.byte_strings.specs.Bytes.{Bytes}
use Rattle.filters.specs.declared.tag.Tag.{Tag}
use Rattle.filters.specs.declared.table.FilterEntry.{FilterEntry}
use Rattle.filters.specs.Tag.{standard_tag}
use Rattle.filters.specs.Series.{Named, Knows, Below}
use Rattle.filters.specs.Table.{Table, part_of, last_named}
use Rattle.filters.specs.Lookup.{found, no_method, unknown_method, named, of_entry, looked_up, tag_of}

-- by what the two answer for one text
text_below : (text : Bytes) (own a b : Option Tag) → ((a ≡ None → ⊥) → b ≡ None → ⊥) → (a ≡ None) ⊎ (a ≡ own) → (b ≡ None) ⊎ (b ≡ own) → Below (tag_of (elim a [ Some t ↦ found t | None ↦ unknown_method text ])) (tag_of (elim b [ Some t ↦ found t | None ↦ unknown_method text ]))
text_below text own None b knows _ _ = inr refl
text_below text own (Some s) None knows _ _ = absurd (knows (λ e. cc) refl)
text_below text own (Some s) (Some t) knows (inl e) _ = cc
text_below text own (Some s) (Some t) knows (inr e) (inl f) = cc
text_below text own (Some s) (Some t) knows (inr e) (inr f) = inl (cc)

module _ (small large : Bytes → Option Tag) (small_named : Named small) (large_named : Named large) (knows : Knows small large) where
  method_below : (none : Bool) (name text : Bytes) → Below (tag_of (cond none (no_method name) (named small text))) (tag_of (cond none (no_method name) (named large text)))
  method_below true name text = inr refl
  method_below false name text = text_below text (standard_tag text) (small text) (large text) (knows text) (small_named text) (large_named text)

  entry_below : (block name : Bytes) (e : Option FilterEntry) → Below (tag_of (of_entry small block name e)) (tag_of (of_entry large block name e))
  entry_below block name None = inr refl
  entry_below block name (Some e) = method_below (eqb e.method.len 0) name (part_of block e.method)

pub narrower : (small large : Bytes → Option Tag) → Named small → Named large → Knows small large → (t : Table) (name : Bytes) → Below (tag_of (looked_up small t name)) (tag_of (looked_up large t name))
narrower small large small_named large_named knows t name =
    entry_below small large small_named large_named knows t.block name (last_named t.block name t.entries)

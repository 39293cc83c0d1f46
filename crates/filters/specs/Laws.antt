-- What the definitions of the table and of the look-up come to: the table's rule over its pairs, the last
-- entry of a name, and what a smaller series finds.
use Rattle.std.specs.Prelude.{◌≡◌, ℕ, ◌+◌, ◌≤◌, List, [], ◌∷◌, ◌++◌, length, take, Some, None, Option, ◌≢◌}
use Rattle.byte_strings.specs.Bytes.{Bytes}
use Rattle.filters.specs.declared.table.Span.{Span}
use Rattle.filters.specs.declared.table.FilterEntry.{FilterEntry}
use Rattle.filters.specs.declared.tag.Tag.{Tag}
use Rattle.filters.specs.Series.{Named, Knows, Below}
use Rattle.filters.specs.Lookup.{looked_up, tag_of}
use Rattle.filters.specs.Table.{Table, end_of, bad_entry, part_of, last_named}

-- two statements, each of which gives the other
pub record Exactly (P Q : Type 0) : Type 0 where
  pub to : P → Q
  pub from : Q → P

-- the pairs of the entries, in list order
abbrev pub pairs : List FilterEntry → List Span
pairs [] = []
pairs (e ∷ es) = e.name ∷ (e.method ∷ pairs es)

-- each pair starts no earlier than the end of the pair before it, the first no earlier than `before`, and ends by `size`
abbrev pub Ordered : ℕ → ℕ → List Span → Type 0
Ordered size before [] = Unit {0}
Ordered size before (s ∷ ss) = (before ≤ s.offset) × (end_of s ≤ size) × Ordered size (end_of s) ss

-- the first entries of a table keep its rule
abbrev pub Sound : Table → List FilterEntry → Type 0
Sound t es = Ordered (length t.block) 0 (pairs es)

-- the entries before this place keep the rule, and with the entry at it they do not
pub record Fault (t : Table) (i : ℕ) : Type 0 where
  pub before : Sound t (take i t.entries)
  pub broken : Sound t (take (i + 1) t.entries) → ⊥

-- no entry bears the name
abbrev pub Unlisted : Bytes → Bytes → List FilterEntry → Type 0
Unlisted block name [] = Unit {0}
Unlisted block name (e ∷ es) = (part_of block e.name ≢ name) × Unlisted block name es

-- this entry bears the name, and none behind it does
pub record Last (block name : Bytes) (es : List FilterEntry) (e : FilterEntry) : Type 0 where
  pub front : List FilterEntry
  pub rest : List FilterEntry
  pub parts : es ≡ front ++ (e ∷ rest)
  pub named : part_of block e.name ≡ name
  pub none_behind : Unlisted block name rest

pub record FilterLaws : Type 0 where
  pub sound : (t : Table) → Exactly (bad_entry t ≡ None) (Sound t t.entries)
  pub fault : (t : Table) (i : ℕ) → bad_entry t ≡ Some i → Fault t i
  pub unlisted : (block name : Bytes) (es : List FilterEntry) → Exactly (last_named block name es ≡ None) (Unlisted block name es)
  pub last : (block name : Bytes) (es : List FilterEntry) (e : FilterEntry) → Exactly (last_named block name es ≡ Some e) (Last block name es e)
  pub narrower : (small large : Bytes → Option Tag) → Named small → Named large → Knows small large → (t : Table) (name : Bytes) → Below (tag_of (looked_up small t name)) (tag_of (looked_up large t name))

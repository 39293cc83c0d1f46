-- Looking a filter up: the answer with its bytes, whichever reference holds them.
use Rattle.std.specs.Prelude.{cond, Some, None, Option, ◌==◌}
use Rattle.byte_strings.specs.Bytes.{Bytes}
use Rattle.filters.specs.declared.tag.Tag.{Tag}
use Rattle.filters.specs.declared.table.FilterEntry.{FilterEntry}
use Rattle.filters.specs.declared.lookup.Lookup.{Lookup}
use Rattle.filters.specs.declared.lookup.Lookup.TheVariants.{Found, NotListed, NoMethod, UnknownMethod}
use Rattle.filters.specs.Table.{Table, part_of, last_named}

-- what looking a filter up tells
pub data Answer : Type 0 where
  found : Tag → Answer
  not_listed : Bytes → Answer
  no_method : Bytes → Answer
  unknown_method : Bytes → Answer

-- the answer that the code's enum holds
abbrev pub read : Lookup → Answer
read (Found t) = found t
read (NotListed n) = not_listed n.now
read (NoMethod n) = no_method n.now
read (UnknownMethod t) = unknown_method t.now

-- by the series, the tag of a method text
abbrev pub named : (Bytes → Option Tag) → Bytes → Answer
named series text = elim (series text) [ Some t ↦ found t | None ↦ unknown_method text ]

-- by the name's entry, if any; a method text of length 0 is none
abbrev pub of_entry : (Bytes → Option Tag) → Bytes → Bytes → Option FilterEntry → Answer
of_entry series block name None = not_listed name
of_entry series block name (Some e) = cond (e.method.len == 0) (no_method name) (named series (part_of block e.method))

-- by the last entry that bears the name
abbrev pub looked_up : (Bytes → Option Tag) → Table → Bytes → Answer
looked_up series t name = of_entry series t.block name (last_named t.block name t.entries)

-- a filter that was not found leaves the tag unresolved
abbrev pub tag_of : Answer → Option Tag
tag_of (found t) = Some t
tag_of (not_listed n) = None
tag_of (no_method n) = None
tag_of (unknown_method t) = None

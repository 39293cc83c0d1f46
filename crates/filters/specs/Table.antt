-- The filter table: entries over a block of bytes, each a name and a method text.
use Rattle.std.specs.Prelude.{ℕ, ◌+◌, Bool, cond, ◌&&◌, List, [], ◌∷◌, length, take, drop, Some, None, Option, nat_le}
use Rattle.std.specs.Option.{option_or}
use Rattle.std.specs.Str.{bytes_eq}
use Rattle.byte_strings.specs.Bytes.{Bytes}
use Rattle.filters.specs.declared.table.Span.{Span}
use Rattle.filters.specs.declared.table.FilterEntry.{FilterEntry}
use Rattle.filters.specs.declared.table.FilterTable.{FilterTable}

-- where a pair's part ends
abbrev pub end_of : Span → ℕ
end_of s = s.offset + s.len

-- an entry's pairs keep the rule: each starts no earlier than the end of the pair before, and ends by the block's end
abbrev pub in_order : ℕ → ℕ → FilterEntry → Bool
in_order size before e =
    nat_le before e.name.offset && (nat_le (end_of e.name) size && (nat_le (end_of e.name) e.method.offset && nat_le (end_of e.method) size))

-- the first of the entries, counted from i, that breaks the rule behind a pair that ends at `before`
abbrev pub first_bad : ℕ → ℕ → ℕ → List FilterEntry → Option ℕ
first_bad size i before [] = None
first_bad size i before (e ∷ es) = cond (in_order size before e) (first_bad size (i + 1) (end_of e.method) es) (Some i)

-- a table's bytes and entries, whichever references hold them
pub record Table : Type 0 where
  pub block : Bytes
  pub entries : List FilterEntry

-- what the code's table holds
abbrev pub table_of : FilterTable → Table
table_of t = record { block = t.block.now; entries = t.entries.now }

-- the place of the first entry that breaks the table's rule
abbrev pub bad_entry : Table → Option ℕ
bad_entry t = first_bad (length t.block) 0 0 t.entries

-- the part of the block that a pair names
abbrev pub part_of : Bytes → Span → Bytes
part_of block s = take s.len (drop s.offset block)

-- whether an entry bears the name
abbrev pub bears : Bytes → Bytes → FilterEntry → Bool
bears block name e = bytes_eq (part_of block e.name) name

-- the last of the entries that bears the name: the one found behind, or else the first
abbrev pub last_named : Bytes → Bytes → List FilterEntry → Option FilterEntry
last_named block name [] = None
last_named block name (e ∷ es) = option_or (last_named block name es) (cond (bears block name e) (Some e) None)

-- The rule of a table: antt compares the table of the code with the list that the rule makes, entry by entry.
use Rattle.std.specs.Prelude.{◌≡◌, ℕ, ◌<◌, map, slice_index}
use Rattle.std.proofs.Common.{sym, ap, ◌∙◌, zero-add}
use Rattle.std.specs.List.{range_with_len}
use Rattle.std.proofs.lemmas.List.FromFn.{get_or-map-range_with_len}
use Rattle.byte_strings.specs.Bytes.{Bytes}

abbrev pub table : (ℕ → ℕ) → Bytes
table f = map f (range_with_len 0 256)

pub rule : (f : ℕ → ℕ) (k : ℕ) → k < 256 → slice_index (table f) k ≡ f k
rule f k h = get_or-map-range_with_len f 0 256 k k 0 h (zero-add k)

-- two functions that make the same table agree at each byte
pub same : (f g : ℕ → ℕ) → table f ≡ table g → (k : ℕ) → k < 256 → f k ≡ g k
same f g e k h = sym (rule f k h) ∙ ap (λ (t : Bytes). slice_index t k) e ∙ rule g k h

-- The transformations of the state in FIPS 197. The state is a list of 16 bytes; row r, column c stands at r + 4 c.
use Rattle.std.specs.Prelude.{ℕ, ◌+◌, ◌-◌, ◌*◌, ◌/◌, ◌%◌, List, [], map, bit_xor, slice_index, slice_index_or}
use Rattle.std.specs.List.{range_with_len}
use Rattle.byte_strings.specs.Bytes.{Bytes}
use Rattle.aes.specs.Field.{product}
use Rattle.aes.specs.Sbox.{sbox, inv_sbox}

-- the list of f 0 to f 15
abbrev pub block : (ℕ → ℕ) → Bytes
block f = map f (range_with_len 0 16)

abbrev pub sum4 : ℕ → ℕ → ℕ → ℕ → ℕ
sum4 a b c d = bit_xor (bit_xor a b) (bit_xor c d)

unfoldable pub sub_bytes : Bytes → Bytes
sub_bytes s = block (λ i. sbox (slice_index s i))

unfoldable pub inv_sub_bytes : Bytes → Bytes
inv_sub_bytes s = block (λ i. inv_sbox (slice_index s i))

-- row r moves r places to the left, around
unfoldable pub shift_rows : Bytes → Bytes
shift_rows s = block (λ i. slice_index s (i % 4 + (i / 4 + i % 4) % 4 * 4))

-- row r moves r places to the right, around
unfoldable pub inv_shift_rows : Bytes → Bytes
inv_shift_rows s = block (λ i. slice_index s (i % 4 + (i / 4 + 4 - i % 4) % 4 * 4))

-- the element at i of the product of the state with the matrix whose first row is p q r t and whose other rows are that row moved around
abbrev pub mixed_at : ℕ → ℕ → ℕ → ℕ → Bytes → ℕ → ℕ
mixed_at p q r t s i = sum4 (product p (slice_index s (i / 4 * 4 + i % 4))) (product q (slice_index s (i / 4 * 4 + (i + 1) % 4))) (product r (slice_index s (i / 4 * 4 + (i + 2) % 4))) (product t (slice_index s (i / 4 * 4 + (i + 3) % 4)))

unfoldable pub mix_columns : Bytes → Bytes
mix_columns s = block (mixed_at 2 3 1 1 s)

-- one column through InvMixColumns
abbrev pub inv_mix_column : Bytes → Bytes
inv_mix_column k = map (mixed_at 14 11 13 9 k) (range_with_len 0 4)

unfoldable pub inv_mix_columns : Bytes → Bytes
inv_mix_columns s = block (mixed_at 14 11 13 9 s)

-- the words 4 n to 4 n + 3 of the schedule w, added to the columns
unfoldable pub add_round_key : List (List ℕ) → ℕ → Bytes → Bytes
add_round_key w n s = block (λ i. bit_xor (slice_index s i) (slice_index (slice_index_or w (n * 4 + i / 4) []) (i % 4)))

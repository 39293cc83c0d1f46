-- The steps of a round in both directions: false is that of the cipher, true that of its inverse.
use Rattle.std.specs.Prelude.{◌≡◌, ℕ, ◌<◌, Bool, true, false, List, [], ◌∷◌, slice_index, slice_index_or}
use Rattle.byte_strings.specs.Bytes.{Bytes}
use Rattle.aes.specs.Sbox.{sbox, inv_sbox}
use Rattle.aes.specs.State.{sub_bytes, inv_sub_bytes, shift_rows, inv_shift_rows, mix_columns, inv_mix_columns}
use Rattle.aes.specs.Words.{products, added, mixed}

abbrev pub substitute : Bool → ℕ → ℕ
substitute false = sbox
substitute true = inv_sbox

abbrev pub substituted : Bool → Bytes → Bytes
substituted false = sub_bytes
substituted true = inv_sub_bytes

abbrev pub shifted : Bool → Bytes → Bytes
shifted false = shift_rows
shifted true = inv_shift_rows

abbrev pub columns_mixed : Bool → Bytes → Bytes
columns_mixed false = mix_columns
columns_mixed true = inv_mix_columns

-- the four columns of a state
abbrev pub columns : Bytes → List Bytes
columns s =
    (slice_index s 0 ∷ slice_index s 1 ∷ slice_index s 2 ∷ slice_index s 3 ∷ []) ∷ (slice_index s 4 ∷ slice_index s 5 ∷ slice_index s 6 ∷ slice_index s 7 ∷ [])
    ∷ (slice_index s 8 ∷ slice_index s 9 ∷ slice_index s 10 ∷ slice_index s 11 ∷ []) ∷ (slice_index s 12 ∷ slice_index s 13 ∷ slice_index s 14 ∷ slice_index s 15 ∷ []) ∷ []

-- one column through the S-box s and the matrix whose first row is p q r t, and a key's word added
abbrev pub column_by : ℕ → ℕ → ℕ → ℕ → (ℕ → ℕ) → Bytes → Bytes → Bytes
column_by p q r t s c = mixed p q r t (s (slice_index c 0)) (s (slice_index c 1)) (s (slice_index c 2)) (s (slice_index c 3))

abbrev pub column_mixed : Bool → Bytes → Bytes → Bytes
column_mixed false = column_by 2 3 1 1 sbox
column_mixed true = column_by 14 11 13 9 inv_sbox

-- one column through the S-box, and a key's word added
abbrev pub column_substituted : Bool → Bytes → Bytes → Bytes
column_substituted inverse c =
    added (substitute inverse (slice_index c 0)) (substitute inverse (slice_index c 1)) (substitute inverse (slice_index c 2)) (substitute inverse (slice_index c 3))

-- a table for each row of the state: the S-box s, and the matrix's column for that row
pub record Rows (p q r t : ℕ) (s : ℕ → ℕ) (tables : List Bytes) : Type 0 where
  pub row_0 : (x : ℕ) → x < 256 → slice_index (slice_index_or tables 0 []) x ≡ products p t r q (s x)
  pub row_1 : (x : ℕ) → x < 256 → slice_index (slice_index_or tables 1 []) x ≡ products q p t r (s x)
  pub row_2 : (x : ℕ) → x < 256 → slice_index (slice_index_or tables 2 []) x ≡ products r q p t (s x)
  pub row_3 : (x : ℕ) → x < 256 → slice_index (slice_index_or tables 3 []) x ≡ products t r q p (s x)

abbrev pub RowsOf : Bool → List Bytes → Type 0
RowsOf false = Rows 2 3 1 1 sbox
RowsOf true = Rows 14 11 13 9 inv_sbox

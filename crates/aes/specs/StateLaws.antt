-- Each transformation of the state keeps it a block and is undone by its inverse.
use Rattle.std.specs.Prelude.{◌≡◌, ℕ, ◌+◌, ◌-◌, ◌*◌, ◌/◌, ◌%◌, ◌<◌, ◌≤◌, List, [], ◌∷◌, length, bit_xor, slice_index, slice_index_or, refl}
use Rattle.std.proofs.Common.{sym, ap, ap₂, subst, ◌∙◌, ⊎_elim, zero-add, lit<}
use Rattle.std.proofs.lemmas.Bool.{cases_lt}
use Rattle.std.proofs.lemmas.List.FromFn.{get_or-map-range_with_len, length-map-range_with_len, fill_by_all}
use Rattle.std.proofs.lemmas.List.{get_or_past}
use Rattle.byte_strings.specs.Bytes.{Bytes}
use Rattle.aes.specs.BlockCipher.{Block}
use Rattle.aes.specs.Keys.{Words}
use Rattle.aes.specs.Sbox.{sbox, inv_sbox}
use Rattle.aes.specs.State.{block, mixed_at, sub_bytes, inv_sub_bytes, shift_rows, inv_shift_rows, mix_columns, inv_mix_columns, add_round_key}
use Rattle.aes.specs.SboxLaws.{sbox-lt, inv_sbox-lt, sbox_undone, inv_sbox_undone}
use Rattle.aes.specs.FieldLaws.{undo_xor, byte_xor, product_lt, twice, mix_undone, mixed_back}

pub length-block : (f : ℕ → ℕ) → length (block f) ≡ 16
length-block f = length-map-range_with_len f 0 16

pub slice_index-block : (f : ℕ → ℕ) (i : ℕ) → i < 16 → slice_index (block f) i ≡ f i
slice_index-block f i h = get_or-map-range_with_len f 0 16 i i 0 h (zero-add i)

-- a list of 16 is the block of its elements
pub block_is : (s : Bytes) → length s ≡ 16 → s ≡ block (λ i. slice_index s i)
block_is s n = fill_by_all (λ i. slice_index s i) s 16 0 n (λ k h. refl)

pub block_same : (f g : ℕ → ℕ) → ((i : ℕ) → i < 16 → f i ≡ g i) → block f ≡ block g
block_same f g e = fill_by_all g (block f) 16 0 (length-block f) (λ k h. slice_index-block f k h ∙ e k h)

pub block_bytes : (f : ℕ → ℕ) → ((i : ℕ) → f i < 256) → Block (block f)
block_bytes f h = (
  length-block f,
  λ k. ⊎_elim (λ l. subst (λ (x : ℕ). x < 256) (sym (slice_index-block f k l)) (h k))
      (λ l. subst (λ (x : ℕ). x < 256) (sym (get_or_past (block f) k 0 (subst (λ (n : ℕ). n ≤ k) (sym (length-block f)) l))) (lit< tt)) (cases_lt k 16),
)

-- a map at each place of a block
module _ (f : ℕ → ℕ → ℕ) where
  pub each_block : ((i b : ℕ) → b < 256 → f i b < 256) → (s : Bytes) → Block s → Block (block (λ i. f i (slice_index s i)))
  each_block lt s b = block_bytes (λ i. f i (slice_index s i)) (λ i. lt i (slice_index s i) (b.1 i))

  pub each_undone : (g : ℕ → ℕ → ℕ) → ((i b : ℕ) → b < 256 → g i (f i b) ≡ b) → (s : Bytes) → Block s
      → block (λ i. g i (slice_index (block (λ j. f j (slice_index s j))) i)) ≡ s
  each_undone g law s b =
      block_same (λ i. g i (slice_index (block (λ j. f j (slice_index s j))) i)) (λ i. slice_index s i)
      (λ i h. ap (g i) (slice_index-block (λ j. f j (slice_index s j)) i h) ∙ law i (slice_index s i) (b.1 i))
      ∙ sym (block_is s b.0)

-- blocks stay blocks
pub sub_block : (s : Bytes) → Block s → Block (sub_bytes s)
unfolding sub_bytes
sub_block = each_block (λ i. sbox) (λ i. sbox-lt)

pub inv_sub_block : (s : Bytes) → Block s → Block (inv_sub_bytes s)
unfolding inv_sub_bytes
inv_sub_block = each_block (λ i. inv_sbox) (λ i. inv_sbox-lt)

moved-block : (place : ℕ → ℕ) (s : Bytes) → Block s → Block (block (λ i. slice_index s (place i)))
moved-block place s b = block_bytes (λ i. slice_index s (place i)) (λ i. b.1 (place i))

pub shift_block : (s : Bytes) → Block s → Block (shift_rows s)
unfolding shift_rows
shift_block = moved-block (λ i. i % 4 + (i / 4 + i % 4) % 4 * 4)

pub inv_shift_block : (s : Bytes) → Block s → Block (inv_shift_rows s)
unfolding inv_shift_rows
inv_shift_block = moved-block (λ i. i % 4 + (i / 4 + 4 - i % 4) % 4 * 4)

mixed_at-lt : (p q r t : ℕ) (s : Bytes) → Block s → (i : ℕ) → mixed_at p q r t s i < 256
mixed_at-lt p q r t s b i =
    byte_xor (byte_xor (product_lt p _ (b.1 _)) (product_lt q _ (b.1 _))) (byte_xor (product_lt r _ (b.1 _)) (product_lt t _ (b.1 _)))

pub mix_block : (s : Bytes) → Block s → Block (mix_columns s)
unfolding mix_columns
mix_block s b = block_bytes (mixed_at 2 3 1 1 s) (mixed_at-lt 2 3 1 1 s b)

pub inv_mix_block : (s : Bytes) → Block s → Block (inv_mix_columns s)
unfolding inv_mix_columns
inv_mix_block s b = block_bytes (mixed_at 14 11 13 9 s) (mixed_at-lt 14 11 13 9 s b)

abbrev key_byte : List Bytes → ℕ → ℕ → ℕ
key_byte w n i = slice_index (slice_index_or w (n * 4 + i / 4) []) (i % 4)

pub add_block : (w : List Bytes) (n : ℕ) (s : Bytes) → Words w → Block s → Block (add_round_key w n s)
unfolding add_round_key
add_block w n s k = each_block (λ i b. bit_xor b (key_byte w n i)) (λ i b h. byte_xor h (k (n * 4 + i / 4) (i % 4))) s

-- each is undone
pub sub_undone : (s : Bytes) → Block s → inv_sub_bytes (sub_bytes s) ≡ s
unfolding sub_bytes inv_sub_bytes
sub_undone = each_undone (λ i. sbox) (λ i. inv_sbox) (λ i. sbox_undone)

pub inv_sub_undone : (s : Bytes) → Block s → sub_bytes (inv_sub_bytes s) ≡ s
unfolding sub_bytes inv_sub_bytes
inv_sub_undone = each_undone (λ i. inv_sbox) (λ i. sbox) (λ i. inv_sbox_undone)

pub add_undone : (w : List Bytes) (n : ℕ) (s : Bytes) → Block s → add_round_key w n (add_round_key w n s) ≡ s
unfolding add_round_key
add_undone w n = each_undone (λ i b. bit_xor b (key_byte w n i)) (λ i b. bit_xor b (key_byte w n i)) (λ i b h. undo_xor b (key_byte w n i))

pub shift_undone : (s : Bytes) → Block s → inv_shift_rows (shift_rows s) ≡ s
unfolding shift_rows inv_shift_rows
shift_undone s b = sym (block_is s b.0)

pub inv_shift_undone : (s : Bytes) → Block s → shift_rows (inv_shift_rows s) ≡ s
unfolding shift_rows inv_shift_rows
inv_shift_undone s b = sym (block_is s b.0)

pub cons4 : {a b c d p q r t : ℕ} {xs ys : Bytes} → a ≡ p → b ≡ q → c ≡ r → d ≡ t → xs ≡ ys → a ∷ b ∷ c ∷ d ∷ xs ≡ p ∷ q ∷ r ∷ t ∷ ys
cons4 e f g h i = ap₂ ◌∷◌ e (ap₂ ◌∷◌ f (ap₂ ◌∷◌ g (ap₂ ◌∷◌ h i)))

-- four columns, where a law U gives the first of four bytes back
module _ (s : Bytes) (b : Block s) (f : ℕ → ℕ → ℕ → ℕ → ℕ)
    (law : (a b c d : ℕ) → a < 256 → b < 256 → c < 256 → d < 256 → f a b c d ≡ a) where
  abbrev at : ℕ → ℕ
  at i = slice_index s i

  four : (i j k l : ℕ) → f (at i) (at j) (at k) (at l) ≡ at i
  four i j k l = law (at i) (at j) (at k) (at l) (b.1 i) (b.1 j) (b.1 k) (b.1 l)

  pub columns : block (λ i. f (at (i / 4 * 4 + i % 4)) (at (i / 4 * 4 + (i + 1) % 4)) (at (i / 4 * 4 + (i + 2) % 4)) (at (i / 4 * 4 + (i + 3) % 4))) ≡ block at
  columns =
      cons4 (four 0 1 2 3) (four 1 2 3 0) (four 2 3 0 1) (four 3 0 1 2)
      (cons4 (four 4 5 6 7) (four 5 6 7 4) (four 6 7 4 5) (four 7 4 5 6)
      (cons4 (four 8 9 10 11) (four 9 10 11 8) (four 10 11 8 9) (four 11 8 9 10)
      (cons4 (four 12 13 14 15) (four 13 14 15 12) (four 14 15 12 13) (four 15 12 13 14) refl)))

pub mix_columns_undone : (s : Bytes) → Block s → inv_mix_columns (mix_columns s) ≡ s
unfolding mix_columns inv_mix_columns
mix_columns_undone s b = columns s b (twice 14 11 13 9 2 3 1 1) mix_undone ∙ sym (block_is s b.0)

pub inv_mix_columns_undone : (s : Bytes) → Block s → mix_columns (inv_mix_columns s) ≡ s
unfolding mix_columns inv_mix_columns
inv_mix_columns_undone s b = columns s b (twice 2 3 1 1 14 11 13 9) mixed_back ∙ sym (block_is s b.0)

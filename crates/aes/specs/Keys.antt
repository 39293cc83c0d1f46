-- KeyExpansion of FIPS 197, and the schedule of the equivalent inverse cipher. A schedule is a list of words, a word a list of four bytes; nk is the key's length in words.
use Rattle.std.specs.Prelude.{ℕ, zero, suc, ◌+◌, ◌-◌, ◌*◌, ◌/◌, ◌%◌, cond, ◌&&◌, ◌||◌, List, [], ◌∷◌, ◌++◌, map, length, ◌==◌, bit_xor, nat_le, nat_lt, slice_index, slice_index_or}
use Rattle.std.specs.List.{range_with_len}
use Rattle.byte_strings.specs.Bytes.{Bytes, Octets}
use Rattle.aes.specs.Field.{xtime}
use Rattle.aes.specs.Sbox.{sbox}
use Rattle.aes.specs.State.{inv_mix_column}

abbrev pub word : (ℕ → ℕ) → Bytes
word f = map f (range_with_len 0 4)

-- x^n in the field
unfoldable pub power_of_x : ℕ → ℕ
power_of_x zero = 1
power_of_x (suc n) = xtime (power_of_x n)

-- byte j of the word that is added to word i - nk, from word i - 1: by RotWord, SubWord and Rcon where i is a multiple of nk, by SubWord half-way through a key of more than 6 words
unfoldable pub mask : ℕ → ℕ → Bytes → ℕ → ℕ
mask nk i w j =
    cond (i % nk == 0) (bit_xor (sbox (slice_index w ((j + 1) % 4))) (cond (j == 0) (power_of_x (i / nk - 1)) 0))
    (cond (nat_lt 6 nk && i % nk == 4) (sbox (slice_index w j)) (slice_index w j))

-- word i of the schedule, from the words before it
unfoldable pub next_word : ℕ → ℕ → List Bytes → Bytes
next_word nk i ws = word (λ j. bit_xor (slice_index (slice_index_or ws (i - nk) []) j) (mask nk i (slice_index_or ws (i - 1) []) j))

-- word i behind the words before it
abbrev pub pushed : ℕ → ℕ → List Bytes → List Bytes
pushed nk i ws = ws ++ next_word nk i ws ∷ []

-- n words more behind nk words
unfoldable pub extended : ℕ → ℕ → List Bytes → List Bytes
extended nk zero ws = ws
extended nk (suc n) ws = pushed nk (nk + n) (extended nk n ws)

-- the key's own words
abbrev pub key_words : ℕ → Bytes → List Bytes
key_words nk key = map (λ i. word (λ j. slice_index key (i * 4 + j))) (range_with_len 0 nk)

-- the schedule for nr rounds
abbrev pub key_expansion : ℕ → ℕ → Bytes → List Bytes
key_expansion nk nr key = extended nk (nr * 4 + 4 - nk) (key_words nk key)

-- every word is made of bytes
abbrev pub Words : List Bytes → Type 0
Words w = (k : ℕ) → Octets (slice_index_or w k [])

-- word i of the schedule of the equivalent inverse cipher: all words but those of the first and the last round key go through InvMixColumns
abbrev pub inverse_word : List Bytes → ℕ → Bytes
inverse_word w i = cond (nat_lt i 4 || nat_le (length w) (i + 4)) (slice_index_or w i []) (inv_mix_column (slice_index_or w i []))

unfoldable pub inverse_schedule : List Bytes → List Bytes
inverse_schedule w = map (inverse_word w) (range_with_len 0 (length w))

-- Cipher and InvCipher of FIPS 197, for any number of rounds, and AES-128 and AES-256 by them; w is the key schedule.
use Rattle.std.specs.Prelude.{◌≡◌, ℕ, zero, suc, ◌+◌, ◌-◌, ◌*◌, ◌≤◌, List}
use Rattle.byte_strings.specs.Bytes.{Bytes}
use Rattle.aes.specs.BlockCipher.{Permutation}
use Rattle.aes.specs.Keys.{key_expansion}
use Rattle.aes.specs.State.{sub_bytes, inv_sub_bytes, shift_rows, inv_shift_rows, mix_columns, inv_mix_columns, add_round_key}

-- the state after the first round key and n full rounds
unfoldable pub rounds : List Bytes → ℕ → Bytes → Bytes
rounds w zero s = add_round_key w 0 s
rounds w (suc n) s = add_round_key w (suc n) (mix_columns (shift_rows (sub_bytes (rounds w n s))))

-- nr rounds, the last of which mixes no columns
unfoldable pub cipher : List Bytes → ℕ → Bytes → Bytes
cipher w nr s = add_round_key w nr (shift_rows (sub_bytes (rounds w (nr - 1) s)))

-- n full rounds, undone from the last to the first, and then the first round key
unfoldable pub inv_rounds : List Bytes → ℕ → Bytes → Bytes
inv_rounds w zero s = add_round_key w 0 s
inv_rounds w (suc n) s = inv_rounds w n (inv_sub_bytes (inv_shift_rows (inv_mix_columns (add_round_key w (suc n) s))))

unfoldable pub inv_cipher : List Bytes → ℕ → Bytes → Bytes
inv_cipher w nr s = inv_rounds w (nr - 1) (inv_sub_bytes (inv_shift_rows (add_round_key w nr s)))

-- the cipher and its inverse, with nr rounds
abbrev pub rijndael : ℕ → List Bytes → Permutation
rijndael nr w = record { forward = cipher w nr; back = inv_cipher w nr }

-- AES with a key of nk words: nk + 6 rounds
abbrev pub aes : ℕ → Bytes → Permutation
aes nk key = rijndael (nk + 6) (key_expansion nk (nk + 6) key)

-- AES with a key of 4 words: 10 rounds
abbrev pub aes128 : Bytes → Permutation
aes128 = aes 4

-- AES with a key of 8 words: 14 rounds
abbrev pub aes256 : Bytes → Permutation
aes256 = aes 8

-- the sizes that belong together: a key of nk words, at least 4, is one of nk * 4 bytes, and each of its nk + 6 rounds, and the start, takes 4 words of the schedule
pub record Sizes (key words rounds : ℕ) : Type 0 where
  pub key_bytes : key + 24 ≡ rounds * 4
  pub schedule_words : words ≡ rounds * 4 + 4
  pub least : 10 ≤ rounds

-- the equivalent inverse cipher, whose schedule is another: n full rounds, and then the last
unfoldable pub eq_inv_rounds : List Bytes → ℕ → Bytes → Bytes
eq_inv_rounds w zero s = add_round_key w 0 (inv_shift_rows (inv_sub_bytes s))
eq_inv_rounds w (suc n) s = eq_inv_rounds w n (add_round_key w (suc n) (inv_mix_columns (inv_shift_rows (inv_sub_bytes s))))

unfoldable pub eq_inv_cipher : List Bytes → ℕ → Bytes → Bytes
eq_inv_cipher w nr s = eq_inv_rounds w (nr - 1) (add_round_key w nr s)

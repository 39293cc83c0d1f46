-- The key schedule of a key of bytes is made of bytes.
use Rattle.std.proofs.Common.{ℕ, zero, suc, ◌+◌, ◌-◌, ◌*◌, ◌/◌, ◌%◌, ◌<◌, Bool, true, false, cond, ◌&&◌, eqb, ltb, List, [], ◌∷◌, ◌++◌, map, get_or, lit<}
use lib.Bits.{bit_xor}
use Rattle.std.specs.List.{range_with_len}
use Rattle.byte_strings.specs.Bytes.{Bytes, Octets}
use Rattle.aes.specs.Sbox.{sbox}
use Rattle.aes.specs.Keys.{Words, word, power_of_x, mask, next_word, extended, key_words}
use Rattle.aes.specs.FieldLaws.{xtime-lt, byte_xor}
use Rattle.aes.specs.SboxLaws.{sbox-lt}

cond-lt : (t : Bool) (x y : ℕ) → x < 256 → y < 256 → cond t x y < 256
cond-lt true x y h k = h
cond-lt false x y h k = k

power_of_x-lt : (n : ℕ) → power_of_x n < 256
unfolding power_of_x
power_of_x-lt zero = lit< tt
power_of_x-lt (suc n) = xtime-lt (power_of_x n) (power_of_x-lt n)

mask_lt : (nk i : ℕ) (w : Bytes) → Octets w → (j : ℕ) → mask nk i w j < 256
unfolding mask
mask_lt nk i w h j =
    cond-lt (eqb (i % nk) 0) _ _
    (byte_xor (sbox-lt (get_or w ((j + 1) % 4) 0) (h ((j + 1) % 4))) (cond-lt (eqb j 0) (power_of_x (i / nk - 1)) 0 (power_of_x-lt (i / nk - 1)) (lit< tt)))
    (cond-lt (ltb 6 nk && eqb (i % nk) 4) (sbox (get_or w j 0)) (get_or w j 0) (sbox-lt (get_or w j 0) (h j)) (h j))

map-lt : (f : ℕ → ℕ) (xs : Bytes) → ((i : ℕ) → f i < 256) → (j : ℕ) → get_or (map f xs) j 0 < 256
map-lt f [] h j = lit< tt
map-lt f (x ∷ xs) h zero = h x
map-lt f (x ∷ xs) h (suc j) = map-lt f xs h j

next_word-lt : (nk i : ℕ) (ws : List Bytes) → Words ws → (j : ℕ) → get_or (next_word nk i ws) j 0 < 256
unfolding next_word
next_word-lt nk i ws b =
    map-lt (λ j. bit_xor (get_or (get_or ws (i - nk) []) j 0) (mask nk i (get_or ws (i - 1) []) j)) (range_with_len 0 4)
    (λ j. byte_xor (b (i - nk) j) (mask_lt nk i (get_or ws (i - 1) []) (b (i - 1)) j))

bytes_push : (ws : List Bytes) (x : Bytes) → Words ws → Octets x → Words (ws ++ x ∷ [])
bytes_push [] x b h zero j = h j
bytes_push [] x b h (suc k) j = lit< tt
bytes_push (y ∷ ws) x b h zero j = b zero j
bytes_push (y ∷ ws) x b h (suc k) j = bytes_push ws x (λ k j. b (suc k) j) h k j

bytes_map : (f : ℕ → Bytes) (xs : Bytes) → ((i : ℕ) → Octets (f i)) → Words (map f xs)
bytes_map f [] h k j = lit< tt
bytes_map f (x ∷ xs) h zero j = h x j
bytes_map f (x ∷ xs) h (suc k) j = bytes_map f xs h k j

extended_bytes : (nk n : ℕ) (ws : List Bytes) → Words ws → Words (extended nk n ws)
unfolding extended
extended_bytes nk zero ws b = b
extended_bytes nk (suc n) ws b =
    bytes_push (extended nk n ws) (next_word nk (nk + n) (extended nk n ws)) (extended_bytes nk n ws b)
    (next_word-lt nk (nk + n) (extended nk n ws) (extended_bytes nk n ws b))

pub expanded_bytes : (nk n : ℕ) (key : Bytes) → Octets key → Words (extended nk n (key_words nk key))
expanded_bytes nk n key h =
    extended_bytes nk n (key_words nk key)
    (bytes_map (λ i. word (λ j. get_or key (i * 4 + j) 0)) (range_with_len 0 nk) (λ i j. map-lt (λ j. get_or key (i * 4 + j) 0) (range_with_len 0 4) (λ j. h (i * 4 + j)) j))

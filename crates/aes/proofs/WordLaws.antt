-- Bytes of words: of a sum, of packed bytes, and of a column by tables.
use Rattle.std.proofs.Common.{◌≡◌, ℕ, ◌/◌, ◌%◌, ◌^◌, ◌<◌, Bool, true, false, List, [], ◌∷◌, get_or, sym, refl, ap, ◌∙◌, ap₂, arith}
use lib.Bits.{bit_xor, xor_shr, xor_mod}
use Rattle.byte_strings.specs.Bytes.{Bytes, Octets}
use Rattle.aes.specs.Field.{product}
use Rattle.aes.specs.State.{sum4}
use Rattle.aes.specs.Words.{packed, bytes_of, products, added, mixed}
use Rattle.aes.specs.FieldLaws.{rotate, product_lt}
use Rattle.aes.specs.Sbox.{sbox, inv_sbox}
use Rattle.aes.specs.SboxLaws.{sbox-lt, inv_sbox-lt}
use Rattle.aes.specs.Direction.{column_by, column_mixed, Rows, RowsOf}

pub four : {a b c d p q r t : ℕ} → a ≡ p → b ≡ q → c ≡ r → d ≡ t → ◌≡◌ {A = Bytes} (a ∷ b ∷ c ∷ d ∷ []) (p ∷ q ∷ r ∷ t ∷ [])
four e f g h = ap₂ ◌∷◌ e (ap₂ ◌∷◌ f (ap₂ ◌∷◌ g (ap₂ ◌∷◌ h refl)))

-- the sum of two words, byte by byte
abbrev plus : Bytes → Bytes → Bytes
plus u v = added (get_or u 0 0) (get_or u 1 0) (get_or u 2 0) (get_or u 3 0) v

sum_at : (k x y : ℕ) → bit_xor x y / 2 ^ k % 256 ≡ bit_xor (x / 2 ^ k % 256) (y / 2 ^ k % 256)
sum_at k x y = ap (λ z. z % 256) (xor_shr x y k) ∙ xor_mod (x / 2 ^ k) (y / 2 ^ k) 8

bytes_sum : (x y : ℕ) → bytes_of (bit_xor x y) ≡ plus (bytes_of x) (bytes_of y)
unfolding added
bytes_sum x y = four (xor_mod x y 8) (sum_at 8 x y) (sum_at 16 x y) (sum_at 24 x y)

module _ (a b c d : ℕ) (ha : a < 256) (hb : b < 256) (hc : c < 256) (hd : d < 256) where
  packed_0 : packed a b c d % 256 ≡ a
  packed_0 = omega arith

  packed_1 : packed a b c d / 256 % 256 ≡ b
  packed_1 = omega arith

  packed_2 : packed a b c d / 65536 % 256 ≡ c
  packed_2 = omega arith

  packed_3 : packed a b c d / 16777216 % 256 ≡ d
  packed_3 = omega arith

  bytes_packed : bytes_of (packed a b c d) ≡ a ∷ b ∷ c ∷ d ∷ []
  bytes_packed = four packed_0 packed_1 packed_2 packed_3

bytes_products : (p q r t x : ℕ) → x < 256 → bytes_of (products p q r t x) ≡ product p x ∷ product q x ∷ product r x ∷ product t x ∷ []
unfolding products
bytes_products p q r t x h =
    bytes_packed (product p x) (product q x) (product r x) (product t x) (product_lt p x h) (product_lt q x h) (product_lt r x h) (product_lt t x h)

-- what byte i of the column c adds, by the tables
abbrev entry : List Bytes → Bytes → ℕ → ℕ
entry tables c i = get_or (get_or tables i []) (get_or c i 0) 0

-- a word of the key, packed
module _ (k : Bytes) (hk : Octets k) where
  abbrev key : ℕ
  key = packed (get_or k 0 0) (get_or k 1 0) (get_or k 2 0) (get_or k 3 0)

  bytes_key : bytes_of key ≡ get_or k 0 0 ∷ get_or k 1 0 ∷ get_or k 2 0 ∷ get_or k 3 0 ∷ []
  bytes_key = bytes_packed (get_or k 0 0) (get_or k 1 0) (get_or k 2 0) (get_or k 3 0) (hk 0) (hk 1) (hk 2) (hk 3)

  -- the column a b c d with the key's word added
  pub packed-added : (a b c d : ℕ) → a < 256 → b < 256 → c < 256 → d < 256 → bytes_of (bit_xor (packed a b c d) key) ≡ added a b c d k
  unfolding added
  packed-added a b c d ha hb hc hd = bytes_sum (packed a b c d) key ∙ ap₂ plus (bytes_packed a b c d ha hb hc hd) bytes_key

  -- the matrix whose first row is p q r t, by a word of products for each byte of the column a b c d, with the key's word added
  pub by_tables : (p q r t a b c d : ℕ) → a < 256 → b < 256 → c < 256 → d < 256
      → bytes_of (bit_xor (sum4 (products p t r q a) (products q p t r b) (products r q p t c) (products t r q p d)) key) ≡ mixed p q r t a b c d k
  unfolding mixed added
  by_tables p q r t a b c d ha hb hc hd =
      let w : ℕ = products p t r q a in
      let x : ℕ = products q p t r b in
      let y : ℕ = products r q p t c in
      let z : ℕ = products t r q p d in
      bytes_sum (sum4 w x y z) key
      ∙ ap₂ plus
      (bytes_sum (bit_xor w x) (bit_xor y z)
      ∙ ap₂ plus (bytes_sum w x ∙ ap₂ plus (bytes_products p t r q a ha) (bytes_products q p t r b hb))
      (bytes_sum y z ∙ ap₂ plus (bytes_products r q p t c hc) (bytes_products t r q p d hd)))
      bytes_key
      ∙ four refl (ap (λ u. bit_xor u (get_or k 1 0)) (sym (rotate (product p b) (product q c) (product r d) (product t a))))
      (ap (λ u. bit_xor u (get_or k 2 0)) (rotate (product r a) (product t b) (product p c) (product q d) ∙ rotate (product q d) (product r a) (product t b) (product p c)))
      (ap (λ u. bit_xor u (get_or k 3 0)) (rotate (product q a) (product r b) (product t c) (product p d)))

  -- the same through an S-box s, by a table for each row of the state
  by_rows : (p q r t : ℕ) (s : ℕ → ℕ) → ((x : ℕ) → x < 256 → s x < 256) → (tables : List Bytes) (c : Bytes) → Octets c → Rows p q r t s tables
      → bytes_of (bit_xor (sum4 (entry tables c 0) (entry tables c 1) (entry tables c 2) (entry tables c 3)) key) ≡ column_by p q r t s c k
  by_rows p q r t s kept tables c h rows =
      ap (λ x. bytes_of (bit_xor x key))
      (ap₂ bit_xor (ap₂ bit_xor (rows.row_0 (get_or c 0 0) (h 0)) (rows.row_1 (get_or c 1 0) (h 1))) (ap₂ bit_xor (rows.row_2 (get_or c 2 0) (h 2)) (rows.row_3 (get_or c 3 0) (h 3))))
      ∙ by_tables p q r t (s (get_or c 0 0)) (s (get_or c 1 0)) (s (get_or c 2 0)) (s (get_or c 3 0)) (kept (get_or c 0 0) (h 0)) (kept (get_or c 1 0) (h 1)) (kept (get_or c 2 0) (h 2)) (kept (get_or c 3 0) (h 3))

  pub by_direction : (inverse : Bool) (tables : List Bytes) (c : Bytes) → Octets c → RowsOf inverse tables
      → bytes_of (bit_xor (sum4 (entry tables c 0) (entry tables c 1) (entry tables c 2) (entry tables c 3)) key) ≡ column_mixed inverse c k
  by_direction false = by_rows 2 3 1 1 sbox sbox-lt
  by_direction true = by_rows 14 11 13 9 inv_sbox inv_sbox-lt

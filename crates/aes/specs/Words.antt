-- Words of four bytes, the lowest byte first, and the columns of the state as words.
use Rattle.std.specs.Prelude.{ℕ, ◌+◌, ◌*◌, ◌/◌, ◌%◌, [], ◌∷◌, ◌++◌, bit_xor, slice_index}
use Rattle.byte_strings.specs.Bytes.{Bytes}
use Rattle.aes.specs.Field.{product}
use Rattle.aes.specs.State.{sum4}

abbrev pub packed : ℕ → ℕ → ℕ → ℕ → ℕ
packed a b c d = a + b * 256 + c * 65536 + d * 16777216

-- the four bytes of a word
abbrev pub bytes_of : ℕ → Bytes
bytes_of x = x % 256 ∷ x / 256 % 256 ∷ x / 65536 % 256 ∷ x / 16777216 % 256 ∷ []

-- the bytes of four words: a state
unfoldable pub unpacked : Bytes → Bytes
unpacked s = bytes_of (slice_index s 0) ++ (bytes_of (slice_index s 1) ++ (bytes_of (slice_index s 2) ++ bytes_of (slice_index s 3)))

-- one byte times the four elements of a matrix's column
unfoldable pub products : ℕ → ℕ → ℕ → ℕ → ℕ → ℕ
products p q r t x = packed (product p x) (product q x) (product r x) (product t x)

-- the bytes a b c d and the bytes of a key's word, added
unfoldable pub added : ℕ → ℕ → ℕ → ℕ → Bytes → Bytes
added a b c d k = bit_xor a (slice_index k 0) ∷ bit_xor b (slice_index k 1) ∷ bit_xor c (slice_index k 2) ∷ bit_xor d (slice_index k 3) ∷ []

-- the column a b c d times the matrix whose first row is p q r t and whose other rows are that row moved around
unfoldable pub mixed : ℕ → ℕ → ℕ → ℕ → ℕ → ℕ → ℕ → ℕ → Bytes → Bytes
mixed p q r t a b c d =
    added (sum4 (product p a) (product q b) (product r c) (product t d)) (sum4 (product p b) (product q c) (product r d) (product t a))
    (sum4 (product p c) (product q d) (product r a) (product t b)) (sum4 (product p d) (product q a) (product r b) (product t c))

-- Padding: 1 to 16 bytes, each equal to their number, fill the last block.
use Rattle.std.specs.Prelude.{ℕ, ◌-◌, ◌%◌, Bool, cond, ◌&&◌, ◌++◌, length, take, drop, replicate, ◌==◌, nat_le, nat_lt, slice_index}
use Rattle.std.specs.List.{list_all}
use Rattle.byte_strings.specs.Bytes.{Bytes}

-- how many bytes of padding n bytes get
abbrev pub pad_length : ℕ → ℕ
pad_length n = 16 - n % 16

abbrev pub padded : Bytes → Bytes
padded x = x ++ replicate (pad_length (length x)) (pad_length (length x))

abbrev pub all_are : ℕ → Bytes → Bool
all_are k x = list_all (λ b. b == k) x

abbrev pub last_byte : Bytes → ℕ
last_byte x = slice_index x (length x - 1)

-- k is 1 to 16, and the last k bytes all equal k
unfoldable pub padded_by : ℕ → Bytes → Bool
padded_by k x = (nat_lt 0 k && nat_lt k 17) && (nat_le k (length x) && all_are k (drop (length x - k) x))

-- how many bytes of x are padding by what its last byte tells; none where the others do not bear it out
unfoldable pub padding_of : Bytes → ℕ
padding_of x = cond (padded_by (last_byte x) x) (last_byte x) 0

-- x without its last n bytes
abbrev pub cut_by : ℕ → Bytes → Bytes
cut_by n x = take (length x - n) x

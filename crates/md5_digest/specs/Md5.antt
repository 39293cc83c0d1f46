-- MD5 as RFC 1321 has it.
use Rattle.std.specs.Prelude.{◌≡◌, ℕ, zero, suc, ◌+◌, ◌-◌, ◌*◌, ◌/◌, ◌%◌, ◌^◌, ◌≤◌, cond, List, [], ◌∷◌, ◌++◌, length, take, drop, replicate, bit_and, bit_or, bit_xor, nat_lt, slice_index}
use Rattle.md5_digest.specs.declared.Registers.{Registers}

-- Words have 32 bits: complement, sum and rotation.
abbrev pub complement : ℕ → ℕ
complement x = 4294967295 - x

abbrev pub sum32 : ℕ → ℕ → ℕ
sum32 x y = (x + y) % 2 ^ 32

abbrev pub rotated : ℕ → ℕ → ℕ
rotated x s = bit_or ((x * 2 ^ s) % 2 ^ 32) (x / 2 ^ (32 - s))

-- The functions of the four rounds.
abbrev pub F : ℕ → ℕ → ℕ → ℕ
F x y z = bit_or (bit_and x y) (bit_and (complement x) z)

abbrev pub G : ℕ → ℕ → ℕ → ℕ
G x y z = bit_or (bit_and x z) (bit_and y (complement z))

abbrev pub H : ℕ → ℕ → ℕ → ℕ
H x y z = bit_xor (bit_xor x y) z

abbrev pub I : ℕ → ℕ → ℕ → ℕ
I x y z = bit_xor y (bit_or x (complement z))

-- The choice of step i, from 0 to 63: sixteen steps to a round.
abbrev pub by_round : {X : Type 0} → ℕ → X → X → X → X → X
by_round i one two three four = cond (nat_lt i 16) one (cond (nat_lt i 32) two (cond (nat_lt i 48) three four))

-- the mixed value of step i, of the registers b, c and d
abbrev pub mixed : ℕ → Registers → ℕ
mixed i v = by_round i (F v.b v.c v.d) (G v.b v.c v.d) (H v.b v.c v.d) (I v.b v.c v.d)

-- which word of the block step i adds
abbrev pub word_number : ℕ → ℕ
word_number i = by_round i i ((5 * i + 1) % 16) ((3 * i + 5) % 16) ((7 * i) % 16)

-- how far step i rotates
abbrev pub shift_amount : ℕ → ℕ
shift_amount i = slice_index (by_round i (7 ∷ 12 ∷ 17 ∷ 22 ∷ []) (5 ∷ 9 ∷ 14 ∷ 20 ∷ []) (4 ∷ 11 ∷ 16 ∷ 23 ∷ []) (6 ∷ 10 ∷ 15 ∷ 21 ∷ [])) (i % 4)

-- The integer part of 2^32 times the absolute value of the sine of i + 1.
unfoldable pub sines : List ℕ
sines =
    0xd76aa478 ∷ 0xe8c7b756 ∷ 0x242070db ∷ 0xc1bdceee ∷ 0xf57c0faf ∷ 0x4787c62a ∷ 0xa8304613 ∷ 0xfd469501 ∷
    0x698098d8 ∷ 0x8b44f7af ∷ 0xffff5bb1 ∷ 0x895cd7be ∷ 0x6b901122 ∷ 0xfd987193 ∷ 0xa679438e ∷ 0x49b40821 ∷
    0xf61e2562 ∷ 0xc040b340 ∷ 0x265e5a51 ∷ 0xe9b6c7aa ∷ 0xd62f105d ∷ 0x02441453 ∷ 0xd8a1e681 ∷ 0xe7d3fbc8 ∷
    0x21e1cde6 ∷ 0xc33707d6 ∷ 0xf4d50d87 ∷ 0x455a14ed ∷ 0xa9e3e905 ∷ 0xfcefa3f8 ∷ 0x676f02d9 ∷ 0x8d2a4c8a ∷
    0xfffa3942 ∷ 0x8771f681 ∷ 0x6d9d6122 ∷ 0xfde5380c ∷ 0xa4beea44 ∷ 0x4bdecfa9 ∷ 0xf6bb4b60 ∷ 0xbebfbc70 ∷
    0x289b7ec6 ∷ 0xeaa127fa ∷ 0xd4ef3085 ∷ 0x04881d05 ∷ 0xd9d4d039 ∷ 0xe6db99e5 ∷ 0x1fa27cf8 ∷ 0xc4ac5665 ∷
    0xf4292244 ∷ 0x432aff97 ∷ 0xab9423a7 ∷ 0xfc93a039 ∷ 0x655b59c3 ∷ 0x8f0ccc92 ∷ 0xffeff47d ∷ 0x85845dd1 ∷
    0x6fa87e4f ∷ 0xfe2ce6e0 ∷ 0xa3014314 ∷ 0x4e0811a1 ∷ 0xf7537e82 ∷ 0xbd3af235 ∷ 0x2ad7d2bb ∷ 0xeb86d391 ∷ []

-- Step i on the words of a block.
unfoldable pub step : List ℕ → ℕ → Registers → Registers
step words i v = record {
  a = v.d;
  b = sum32 v.b (rotated (sum32 (sum32 (sum32 v.a (mixed i v)) (slice_index sines i)) (slice_index words (word_number i))) (shift_amount i));
  c = v.b;
  d = v.c;
}

-- The first n steps.
unfoldable pub steps : List ℕ → Registers → ℕ → Registers
steps words v zero = v
steps words v (suc n) = step words n (steps words v n)

-- Bytes as a number and a number as bytes, low-order byte first.
abbrev pub number : List ℕ → ℕ
number [] = 0
number (b ∷ bs) = b + 256 * number bs

abbrev pub low_bytes : ℕ → ℕ → List ℕ
low_bytes zero n = []
low_bytes (suc k) n = n % 256 ∷ low_bytes k (n / 256)

-- The first n words of the bytes, four bytes to a word.
unfoldable pub words : ℕ → List ℕ → List ℕ
words zero bytes = []
words (suc n) bytes = number (take 4 bytes) ∷ words n (drop 4 bytes)

-- The registers after one block of 64 bytes.
unfoldable pub compressed : Registers → List ℕ → Registers
compressed h block =
    let v = steps (words 16 block) h 64 in
    record { a = sum32 h.a v.a; b = sum32 h.b v.b; c = sum32 h.c v.c; d = sum32 h.d v.d }

-- The registers after n blocks.
abbrev pub blocks : Registers → ℕ → List ℕ → Registers
blocks h zero bytes = h
blocks h (suc n) bytes = blocks (compressed h (take 64 bytes)) n (drop 64 bytes)

-- The registers after all complete blocks of the bytes.
abbrev pub absorbed : Registers → List ℕ → Registers
absorbed h bytes = blocks h (length bytes / 64) bytes

-- the registers before the first block
abbrev pub initial : Registers
initial = record { a = 0x67452301; b = 0xefcdab89; c = 0x98badcfe; d = 0x10325476 }

-- What follows a message of n bytes: the byte 0x80, zeros up to 56 bytes modulo 64, and its length in bits modulo 2^64.
unfoldable pub padding : ℕ → List ℕ
padding n = 0x80 ∷ (replicate ((119 - n % 64) % 64) 0 ++ low_bytes 8 (8 * n))

-- the four registers as 16 bytes, each low-order byte first
unfoldable pub digest : Registers → List ℕ
digest h = low_bytes 4 h.a ++ (low_bytes 4 h.b ++ (low_bytes 4 h.c ++ low_bytes 4 h.d))

-- the digest of a message, padded, from the registers that it begins with
unfoldable pub digested : Registers → List ℕ → List ℕ
digested h message = digest (absorbed h (message ++ padding (length message)))

abbrev pub md5 : List ℕ → List ℕ
md5 message = digested initial message

-- the padding completes a block, with no more zeros than that takes
abbrev pub Completes : Type 0
Completes = (n : ℕ) → ((n + length (padding n)) % 64 ≡ 0) × (length (padding n) ≤ 72)

abbrev pub HasSixteenBytes : Type 0
HasSixteenBytes = (message : List ℕ) → length (md5 message) ≡ 16

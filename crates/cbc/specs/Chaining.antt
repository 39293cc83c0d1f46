-- Cipher block chaining (SP 800-38A, 6.2) over any block cipher, with padding, and stored behind the start vector.
use Rattle.std.specs.Prelude.{◌≡◌, ℕ, zero, suc, ◌+◌, ◌*◌, ◌/◌, ◌<◌, ◌≤◌, Bool, true, cond, [], ◌++◌, length, take, drop, Some, None, Option}
use Rattle.byte_strings.specs.Bytes.{Bytes, Writes}
use Rattle.aes.specs.BlockCipher.{Permutation}
use Rattle.cbc.specs.Blocks.{xor_blocks}
use Rattle.cbc.specs.Pad.{padded, padding_of, cut_by}

-- n blocks of x, each added to the block stored before it and sent through f
unfoldable pub chained : (Bytes → Bytes) → ℕ → Bytes → Bytes → Bytes
chained f zero before x = []
chained f (suc n) before x = f (xor_blocks (take 16 x) before) ++ chained f n (f (xor_blocks (take 16 x) before)) (drop 16 x)

-- n blocks of y, each sent through g and added to the block stored before it
unfoldable pub unchained : (Bytes → Bytes) → ℕ → Bytes → Bytes → Bytes
unchained g zero before y = []
unchained g (suc n) before y = xor_blocks (g (take 16 y)) before ++ unchained g n (take 16 y) (drop 16 y)

-- how many bytes n bytes and their padding are
abbrev pub padded_length : ℕ → ℕ
padded_length n = (n / 16 + 1) * 16

-- x with its padding, chained behind the start vector iv
unfoldable pub encrypted : Permutation → Bytes → Bytes → Bytes
encrypted p iv x = chained p.forward (length x / 16 + 1) iv (padded x)

-- how many bytes of n are in complete blocks
abbrev pub complete_length : ℕ → ℕ
complete_length n = n / 16 * 16

-- the complete blocks of y, unchained; a trailing partial block is dropped
unfoldable pub plain : Permutation → Bytes → Bytes → Bytes
plain p iv y = unchained p.back (length y / 16) iv y

-- how many bytes the removal of padding takes, where it is asked for
abbrev pub removed : Bool → Bytes → ℕ
removed unpad x = cond unpad (padding_of x) 0

unfoldable pub decrypted : Permutation → Bool → Bytes → Bytes → Bytes
decrypted p unpad iv y = cut_by (removed unpad (plain p iv y)) (plain p iv y)

-- what protecting x stores: the start vector, then x encrypted
unfoldable pub protected : Permutation → Bytes → Bytes → Bytes
protected p iv x = iv ++ encrypted p iv x

-- how many bytes protecting n bytes stores
abbrev pub stored_length : ℕ → ℕ
stored_length n = 16 + padded_length n

-- what restoring y gives, where y has a start vector
unfoldable pub restored : Permutation → Bytes → Bytes
restored p y = decrypted p true (take 16 y) (drop 16 y)

-- what a call answers and leaves in a buffer that it is to write w into: the count of w's bytes, or nothing where the buffer has less than the room wanted
abbrev pub Written : ℕ → Bytes → Option ℕ → Bytes → Bytes → Type 0
Written room w None old new = (length old < room) × (new ≡ old)
Written room w (Some n) old new = (room ≤ length old) × (n ≡ length w) × Writes w old new

-- what protecting x stores has the length that is told beforehand, and restoring gives x back
pub record RoundTrip (p : Permutation) (iv x : Bytes) : Type 0 where
  pub long : length (protected p iv x) ≡ stored_length (length x)
  pub back : restored p (protected p iv x) ≡ x

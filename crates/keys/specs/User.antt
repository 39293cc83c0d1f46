-- The entry U: Algorithm 4 for revision 2, Algorithm 5 for revisions 3 and 4, and the comparison of Algorithm 6.
use Rattle.std.specs.Prelude.{◌≡◌, ℕ, zero, suc, ◌+◌, Bool, true, ◌++◌, map, length, take, bit_xor}
use Rattle.std.specs.Str.{bytes_eq}
use Rattle.byte_strings.specs.Bytes.{Bytes, zeros}
use Rattle.md5_digest.specs.Md5.{md5}
use Rattle.rc4.specs.Rc4.{rc4}
use Rattle.keys.specs.declared.inputs.Revision.{Revision}
use Rattle.keys.specs.declared.inputs.Revision.TheVariants.{R2, R3, R4}
use Rattle.keys.specs.Password.{password_padding}

-- Algorithm 4: the padding under RC4 with the file key
unfoldable pub user_password2 : Bytes → Bytes
user_password2 key = rc4 key password_padding

-- each byte of the key XORed with a number
abbrev pub key_xor : ℕ → Bytes → Bytes
key_xor i key = map (λ b. bit_xor b i) key

-- Algorithm 5, steps (d) and (e): RC4 under the key, and then n times more, each time under the key XORed with 1, 2, ..
unfoldable pub repeated : Bytes → ℕ → Bytes → Bytes
repeated key zero x = rc4 key x
repeated key (suc n) x = rc4 (key_xor (n + 1) key) (repeated key n x)

-- Algorithm 5: 16 bytes, and 16 zeros in the place of its arbitrary padding
unfoldable pub user_password34 : Bytes → Bytes → Bytes
user_password34 id key = repeated key 19 (md5 (password_padding ++ id)) ++ zeros 16

-- the 32 bytes of U that a key gives
abbrev pub user_entry : Revision → Bytes → Bytes → Bytes
user_entry R2 id key = user_password2 key
user_entry R3 id key = user_password34 id key
user_entry R4 id key = user_password34 id key

-- whether the first 16 bytes are the same; they are not where one of the two is shorter
abbrev pub same_front : Bytes → Bytes → Bool
same_front u own = bytes_eq (take 16 u) (take 16 own)

-- Algorithm 6: whether U is the one that the key gives, the whole of it for revision 2, else its first 16 bytes
abbrev pub agrees : Revision → Bytes → Bytes → Bytes → Bool
agrees R2 id key u = bytes_eq u (user_password2 key)
agrees R3 id key u = same_front u (user_password34 id key)
agrees R4 id key u = same_front u (user_password34 id key)

-- U has 32 bytes
abbrev pub HasLength32 : Type 0
HasLength32 = (r : Revision) (id key : Bytes) → length (user_entry r id key) ≡ 32

-- the U that a key gives agrees with it
abbrev pub OwnAgrees : Type 0
OwnAgrees = (r : Revision) (id key : Bytes) → agrees r id key (user_entry r id key) ≡ true

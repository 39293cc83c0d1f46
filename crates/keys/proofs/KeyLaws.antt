-- What the layers above use of the keys: lengths, and that the U that a key gives agrees with it.
use Rattle.std.proofs.Common.{◌≡◌, ℕ, zero, suc, ◌+◌, ◌≤◌, min, Bool, true, ◌++◌, length, take, ℤ, ◌∙◌, arith, rules}
use lib.ListN.{length-replicate}
use Rattle.std.specs.Str.{bytes_eq}
use Rattle.std.proofs.lemmas.Slice.Eq.{bytes_eq-Decides}
use Rattle.std.proofs.lemmas.List.{length-append, length-take}
use Rattle.byte_strings.specs.Bytes.{Bytes}
use Rattle.md5_digest.specs.Md5.{md5}
use Rattle.md5_digest.proofs.Padding.{sixteen}
use Rattle.rc4.specs.Rc4.{rc4, keyed}
use Rattle.rc4.proofs.Streams.{length-stream}
use Rattle.keys.specs.declared.inputs.Revision.TheVariants.{R2, R3, R4}
use Rattle.keys.specs.Password.{password_padding}
use Rattle.keys.specs.File.{Basis, hashed, again, turns, file_key}
use Rattle.keys.specs.User.{key_xor, repeated, user_password2, user_password34, HasLength32, OwnAgrees}
use Rattle.keys.specs.Object.{object_key}

length-rc4 : (key x : Bytes) → length (rc4 key x) ≡ length x
length-rc4 key x = length-stream (keyed key) x

length-repeated : (key : Bytes) (n : ℕ) (x : Bytes) → length (repeated key n x) ≡ length x
unfolding repeated
length-repeated key zero x = length-rc4 key x
length-repeated key (suc n) x = length-rc4 (key_xor (n + 1) key) (repeated key n x) ∙ length-repeated key n x

length_2 : (key : Bytes) → length (user_password2 key) ≡ 32
unfolding user_password2 password_padding
length_2 key = length-rc4 key password_padding

length_34 : (id key : Bytes) → length (user_password34 id key) ≡ 32
unfolding user_password34
length_34 id key =
    let x = md5 (password_padding ++ id) in
    let front = length-repeated key 19 x ∙ sixteen (password_padding ++ id) in
    simp (length-append, length-replicate {A = ℕ}) (omega arith)

pub long : HasLength32
long R2 id key = length_2 key
long R3 id key = length_34 id key
long R4 id key = length_34 id key

same_self : (x : Bytes) → bytes_eq x x ≡ true
same_self x = let d = bytes_eq-Decides x x in search rules

pub agree : OwnAgrees
agree R2 id key = same_self (user_password2 key)
agree R3 id key = same_self (take 16 (user_password34 id key))
agree R4 id key = same_self (take 16 (user_password34 id key))

length-again : (n k : ℕ) (x : Bytes) → length x ≡ 16 → length (again n k x) ≡ 16
unfolding again
length-again n zero x h = h
length-again n (suc k) x h = sixteen (take n (again n k x))

pub length-file_key : (b : Basis) (password : Bytes) → b.n ≤ 16 → length (file_key b password) ≡ b.n
unfolding file_key
length-file_key b password h =
    let all = length-again b.n (turns b.revision) (md5 (hashed b password)) (sixteen (hashed b password)) in
    simp length-take (omega arith)

pub length-object_key : (key : Bytes) (object generation : ℤ) (salted : Bool) → length (object_key key object generation salted) ≡ min 16 (length key + 5)
unfolding object_key
length-object_key key object generation salted = simp (length-take, sixteen) (omega arith)

-- A password and its padding, and a key with zeros behind it, as the code puts them together.
use Rattle.std.proofs.Common.{◌≡◌, ℕ, ◌+◌, ◌-◌, ◌<◌, ◌≤◌, min, List, ◌++◌, length, take, drop, sym, ap, ◌∙◌, ⊎_elim, arith}
use lib.Seq.{take-append-add}
use borrow.Rule.Slice.PartMut.{put_mid, post_of}
use Rattle.std.proofs.lemmas.List.{length-take, length-append, take_at, drop_at, drop-drop, append_assoc, append-nil, take-append-le, take_all}
use Rattle.std.proofs.lemmas.Bool.{cases_lt}
use Rattle.std.specs.Str.{bytes_eq}
use Rattle.std.proofs.lemmas.Bool.Decides.{same_from_decides}
use Rattle.std.proofs.lemmas.Slice.Eq.{bytes_eq-Decides}
use Rattle.keys.specs.Password.{password_padding, padded}

-- the order of the two sides is no matter
pub bytes_eq_flip : (xs ys : List ℕ) → bytes_eq xs ys ≡ bytes_eq ys xs
bytes_eq_flip xs ys =
    let d = bytes_eq-Decides xs ys in
    let e = bytes_eq-Decides ys xs in
    same_from_decides (bytes_eq xs ys) (bytes_eq ys xs) d (λ r. sym (e.0 r), λ r. e.1 (sym r))

padded_short : (pw pad : List ℕ) (n : ℕ) → n ≡ min (length pw) 32 → length pw < 32 → take 32 (pw ++ pad) ≡ take (n - 0) pw ++ take (32 - n - 0) pad
padded_short pw pad n m h =
    let e : length pw + (32 - n - 0) ≡ 32 = omega arith in
    let f = ap (λ k. take k (pw ++ pad)) e in
    let g = take-append-add pw pad (32 - n - 0) in
    let t = take_all (n - 0) pw (omega arith) in cc

padded_long : (pw pad : List ℕ) (n : ℕ) → n ≡ min (length pw) 32 → 32 ≤ length pw → take 32 (pw ++ pad) ≡ take (n - 0) pw ++ take (32 - n - 0) pad
padded_long pw pad n m h =
    let z : 32 - n - 0 ≡ 0 = omega arith in
    let y : n - 0 ≡ 32 = omega arith in
    let g = take-append-le 32 pw pad h in
    let t = append-nil (take 32 pw) in rw (z, y) (g ∙ sym t)

pub length-padded : (pw : List ℕ) → length (padded pw) ≡ 32
unfolding padded password_padding
length-padded pw = simp (length-take, length-append) (omega arith)

-- the password and then the padding, written to the front of an area
pub pad_is : (area pw a b : List ℕ) (n : ℕ) → n ≡ min (length pw) 32 → 32 ≤ length area → a ≡ take (n - 0) pw → b ≡ take (32 - n - 0) password_padding →
    put_mid n (32 - n) (a ++ post_of 0 (n - 0) area) b ≡ padded pw ++ drop (length (padded pw)) area
unfolding padded
pad_is area pw a b n m h p q =
    let la : length a ≡ n = ap length p ∙ simp length-take (omega arith) in
    let e = ⊎_elim (padded_short pw password_padding n m) (padded_long pw password_padding n m) (cases_lt (length pw) 32) in
    let t = take_at a (post_of 0 (n - 0) area) n la in
    let u = drop_at a (post_of 0 (n - 0) area) n la in
    let s : n - 0 + (32 - n) ≡ 32 = omega arith in
    let v : drop (32 - n) (drop (n - 0) area) ≡ drop 32 area = drop-drop (32 - n) (n - 0) area ∙ ap (λ k. drop k area) s in
    let long = ap (λ k. drop k area) (length-padded pw) in
    let w = append_assoc a b (drop 32 area) in cc

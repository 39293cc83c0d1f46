-- Parts of byte strings: their bytes, where two join, and a part written into a buffer.
use Rattle.std.proofs.Common.{◌≡◌, ℕ, zero, suc, ◌+◌, ◌-◌, ◌*◌, ◌<◌, [], ◌∷◌, ◌++◌, length, take, drop, replicate, sym, ap, ◌∙◌, subst, ap₂, arith, lit<}
use lib.Seq.{take-append_seam, drop-append_seam}
use borrow.Rule.Slice.PartMut.{put_mid}
use Rattle.std.proofs.lemmas.List.{append_assoc, append-nil, length-append, length-drop, take_all, drop_all, drop-drop}
use Rattle.byte_strings.specs.Bytes.{Bytes, Octets, Writes}

pub take_bytes : (n : ℕ) (x : Bytes) → Octets x → Octets (take n x)
take_bytes zero x h k = lit< tt
take_bytes (suc n) [] h k = lit< tt
take_bytes (suc n) (y ∷ x) h zero = h zero
take_bytes (suc n) (y ∷ x) h (suc k) = take_bytes n x (λ j. h (suc j)) k

pub drop_bytes : (n : ℕ) (x : Bytes) → Octets x → Octets (drop n x)
drop_bytes zero x h k = h k
drop_bytes (suc n) [] h k = lit< tt
drop_bytes (suc n) (y ∷ x) h k = drop_bytes n x (λ j. h (suc j)) k

pub append_bytes : (x y : Bytes) → Octets x → Octets y → Octets (x ++ y)
append_bytes [] y h g k = g k
append_bytes (z ∷ x) y h g zero = h zero
append_bytes (z ∷ x) y h g (suc k) = append_bytes x y (λ j. h (suc j)) g k

pub replicate_bytes : (n v : ℕ) → v < 256 → Octets (replicate n v)
replicate_bytes zero v h k = lit< tt
replicate_bytes (suc n) v h zero = h
replicate_bytes (suc n) v h (suc k) = replicate_bytes n v h k

pub take_seam : (n : ℕ) (x y : Bytes) → length x ≡ n → take n (x ++ y) ≡ x
take_seam n x y e = subst (λ (m : ℕ). take m (x ++ y) ≡ x) e (take-append_seam x y)

pub drop_seam : (n : ℕ) (x y : Bytes) → length x ≡ n → drop n (x ++ y) ≡ y
drop_seam n x y e = subst (λ (m : ℕ). drop m (x ++ y) ≡ y) e (drop-append_seam x y)

-- a part written at a
pub placed : (a n : ℕ) (xs ys b : Bytes) → ys ≡ b → put_mid a (a + n - a) xs ys ≡ take a xs ++ (b ++ drop (a + n) xs)
placed a n xs ys b e =
    let m : a + (a + n - a) ≡ a + n = omega arith in
    ap₂ (λ (u v : Bytes). take a xs ++ (u ++ v)) e (drop-drop (a + n - a) a xs ∙ ap (λ (k : ℕ). drop k xs) m)

-- n blocks and one more
pub drops : (n : ℕ) (x : Bytes) → drop ((n + 1) * 16) x ≡ drop 16 (drop (n * 16) x)
drops n x = let e : (n + 1) * 16 ≡ n * 16 + 16 = omega arith in ap (λ (k : ℕ). drop k x) e ∙ sym (drop-drop 16 (n * 16) x)

-- bytes at a place, where their number is known
pub put-long : (a n k : ℕ) (xs b new : Bytes) → a ≡ k → length b ≡ n → new ≡ take a xs ++ (b ++ drop (a + length b) xs) → new ≡ take k xs ++ (b ++ drop (k + n) xs)
put-long a n k xs b new at long is = is ∙ ap₂ (λ (i j : ℕ). take i xs ++ (b ++ drop (i + j) xs)) at long

-- everything behind the first block
pub behind : (x : Bytes) → take (length x - 16) (drop 16 x) ≡ drop 16 x
behind x = take_all (length x - 16) (drop 16 x) (omega (arith, length-drop 16 x))

-- a block written at the front, and e behind it
pub placed_behind : (v e old mid part : Bytes) → length v ≡ 16 → mid ≡ v ++ drop 16 old → Writes e (take (length mid - 16) (drop 16 mid)) part
    → Writes (v ++ e) old (put_mid 16 (length mid - 16) mid part)
placed_behind v e old mid part sixteen mid-is part-is =
    let front : take 16 mid ≡ v = ap (take 16) mid-is ∙ take_seam 16 v (drop 16 old) sixteen in
    let rest : drop 16 mid ≡ drop 16 old = ap (drop 16) mid-is ∙ drop_seam 16 v (drop 16 old) sixteen in
    let none : drop (length mid - 16) (drop 16 mid) ≡ [] = drop_all (length mid - 16) (drop 16 mid) (omega (arith, length-drop 16 mid)) in
    let written : part ≡ e ++ drop (length (v ++ e)) old =
    part-is ∙ ap (λ (u : Bytes). e ++ drop (length e) u) (behind mid ∙ rest)
    ∙ ap (λ (u : Bytes). e ++ u) (drop-drop (length e) 16 old ∙ ap (λ (n : ℕ). drop n old) (sym (length-append v e ∙ ap (λ (n : ℕ). n + length e) sixteen))) in
    ap₂ ◌++◌ front (ap (λ (u : Bytes). part ++ u) none ∙ append-nil part ∙ written) ∙ sym (append_assoc v e (drop (length (v ++ e)) old))

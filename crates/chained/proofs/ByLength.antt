-- How much a steady restoring has handed out goes by the number of bytes fed to it; the chained one by its blocks.
use Rattle.std.proofs.Common.{◌≡◌, ℕ, ◌+◌, true, List, [], ◌∷◌, ◌++◌, length, sym, refl, ap, ◌∙◌, ap₂, add-zero, arith, length-append}
use Rattle.byte_strings.specs.Bytes.{Bytes}
use Rattle.aes.specs.BlockCipher.{Permutation}
use Rattle.methods.specs.Running.{Residual, Feeds}
use Rattle.chained.specs.ChainedMethod.{unchaining, handed_out}
use Rattle.chained.specs.Lengths.{Feeding, Feedings, intake, output, ByLength, FourPieces}

-- q tells of an empty piece what it tells of none
record Idle (q : Residual) : Type 0 where
  steady : q.steady ≡ true
  hands : q.hands 0 ≡ 0
  later : q.closing ≡ q.later 0

fed_idle : (q t : Residual) (p w : Bytes) → q.steady ≡ true → Feeds q p w t → Idle t
fed_idle q t p w steady f =
    let s = f.steady steady in
    let h = s.hands 0 in
    let same : q.hands (length p + 0) ≡ q.hands (length p) = ap q.hands (add-zero (length p)) in
    record {
      steady = s.still;
      hands = omega (arith, h, same);
      later = f.space ∙ ap q.later (sym (add-zero (length p))) ∙ s.later 0;
    }

-- what was told of all bytes at once is what the feedings came to
lengths : (fs : List Feeding) (q t : Residual) → Idle q → Feedings q fs t → (length (output fs) ≡ q.hands (length (intake fs))) × (t.closing ≡ q.later (length (intake fs)))
lengths [] q t idle same = (sym idle.hands, ap (λ (r : Residual). r.closing) same ∙ idle.later)
lengths (f ∷ fs) q t idle (s, (feeds, then)) =
    let steady = feeds.steady idle.steady in
    let rest = lengths fs s t (fed_idle q s f.piece f.out idle.steady feeds) then in
    let all : length (f.piece ++ intake fs) ≡ length f.piece + length (intake fs) = length-append f.piece (intake fs) in (
      length-append f.out (output fs) ∙ ap₂ ◌+◌ feeds.exact rest.0 ∙ sym (steady.hands (length (intake fs))) ∙ ap q.hands (sym all),
      rest.1 ∙ sym (steady.later (length (intake fs))) ∙ ap q.later (sym all),
    )

start_idle : (g : Permutation) → Idle (unchaining g)
start_idle g = record { steady = refl; hands = refl; later = refl }

pub by_length : ByLength
by_length g fs t feedings = lengths fs (unchaining g) t (start_idle g) feedings

-- what is out after n bytes
out_after : (g : Permutation) (fs : List Feeding) (t : Residual) (n : ℕ) → Feedings (unchaining g) fs t → length (intake fs) ≡ n → length (output fs) ≡ handed_out n
out_after g fs t n feedings is = (by_length g fs t feedings).0 ∙ ap handed_out is

pub four_pieces : FourPieces
four_pieces g a b c d t (q₁, (f₁, (q₂, (f₂, (q₃, (f₃, rest)))))) la lb lc ld =
    let one = out_after g (a ∷ []) q₁ 16 (q₁, (f₁, refl)) (simp length-append (omega arith)) in
    let two = out_after g (a ∷ b ∷ []) q₂ 32 (q₁, (f₁, (q₂, (f₂, refl)))) (simp length-append (omega arith)) in
    let three = out_after g (a ∷ b ∷ c ∷ []) q₃ 48 (q₁, (f₁, (q₂, (f₂, (q₃, (f₃, refl)))))) (simp length-append (omega arith)) in
    let four = out_after g (a ∷ b ∷ c ∷ d ∷ []) t 53 (q₁, (f₁, (q₂, (f₂, (q₃, (f₃, rest)))))) (simp length-append (omega arith)) in
    let l₁ = simp length-append at one in
    let l₂ = simp length-append at two in
    let l₃ = simp length-append at three in
    let l₄ = simp length-append at four in
    (omega (arith, l₁), omega (arith, l₁, l₂), omega (arith, l₂, l₃), omega (arith, l₃, l₄))

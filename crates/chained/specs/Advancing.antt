-- What one block more does to a chained restoring, and what closing it hands out.
use Rattle.std.specs.Prelude.{◌≡◌, ℕ, suc, ◌+◌, ◌-◌, ◌*◌, ◌/◌, ◌<◌, ◌≤◌, min, Bool, true, false, cond, [], ◌++◌, length, take, drop, Some, None, Option, nat_lt, refl}
use Rattle.std.proofs.Common.{sym, subst, ◌∙◌, inl, inr, arith}
use Rattle.std.proofs.Math.Path.{ap, ap₂}
use Rattle.std.proofs.Math.Seq.{take-append-add}
use Rattle.std.proofs.lemmas.List.{append-nil, length-append, length-drop, length-take-le, take_at, drop_at, nil_from_length}
use Rattle.std.proofs.lemmas.Bool.{cases_lt, lt-ltb, le-ltb, ltb-false}
use Rattle.byte_strings.specs.Bytes.{Bytes}
use Rattle.aes.specs.BlockCipher.{Permutation}
use Rattle.cbc.specs.Blocks.{xor_blocks}
use Rattle.cbc.specs.Pad.{padding_of}
use Rattle.cbc.specs.Chaining.{unchained, plain, decrypted, restored}
use Rattle.cbc.proofs.Walking.{length_xor, unchained-length}
use Rattle.cbc.proofs.PaddingLaws.{padding_few, padding-front}
use Rattle.methods.specs.Running.{Fits, after}
use Rattle.chained.specs.declared.last.Last.{Last}
use Rattle.chained.specs.declared.last.Last.TheVariants.{Nothing, Vector, Restored}
use Rattle.chained.specs.Last.{width, complete, advanced, released, unpadded, ended}
use Rattle.chained.specs.Steps.{remaining, behind, listed}

-- only the last block can lose bytes
unpadded-front : (a y : Bytes) → 16 ≤ length y → unpadded (a ++ y) ≡ a ++ unpadded y
unpadded-front a y long =
    let at : length (a ++ y) - padding_of (a ++ y) ≡ length a + (length y - padding_of y) = omega (arith, length-append a y, padding-front a y long, padding_few y) in
    ap (λ (n : ℕ). take n (a ++ y)) at ∙ take-append-add a y (length y - padding_of y)

unpadded-length : (x : Bytes) → length (unpadded x) ≡ length x - padding_of x
unpadded-length x = length-take-le (length x - padding_of x) x (omega arith)

unpadded_none : unpadded [] ≡ []
unpadded_none = nil_from_length (unpadded []) (unpadded-length [] ∙ omega arith)

pub unpadded_few : (x : Bytes) → length x ≡ 16 → length (unpadded x) ≡ 16 - padding_of x
unpadded_few x sixteen = unpadded-length x ∙ omega arith

module _ (g : Permutation) where
  -- the first block apart
  first_block : (b r before : Bytes) → length b ≡ 16 → unchained g.back (length (b ++ r) / 16) before (b ++ r) ≡ xor_blocks (g.back b) before ++ unchained g.back (length r / 16) b r
  unfolding unchained
  first_block b r before sixteen =
      let n : length (b ++ r) / 16 ≡ suc (length r / 16) = omega (arith, length-append b r) in
      ap (λ (k : ℕ). unchained g.back k before (b ++ r)) n
      ∙ ap₂ (λ (u v : Bytes). xor_blocks (g.back u) before ++ unchained g.back (length r / 16) u v) (take_at b r 16 sixteen) (drop_at b r 16 sixteen)

  -- one block more
  block_done : (last : Last) (b r : Bytes) → length b ≡ 16 → remaining g last (b ++ r) ≡ after (released last) (remaining g (advanced g last b) r)
  unfolding restored decrypted plain
  block_done Nothing b r sixteen =
      ap (λ (t : Bool). cond t None (Some (restored g (b ++ r)))) (le-ltb (length (b ++ r)) 16 (omega (arith, length-append b r)))
      ∙ ap₂ (λ (u v : Bytes). Some (decrypted g true u v)) (take_at b r 16 sixteen) (drop_at b r 16 sixteen)
  block_done (Vector v) b r sixteen = ap (λ (u : Bytes). Some (unpadded u)) (first_block b r v sixteen)
  block_done (Restored s p) b r sixteen =
      let h : Bytes = xor_blocks (g.back b) s in
      let rest : Bytes = unchained g.back (length r / 16) b r in
      let long : 16 ≤ length (h ++ rest) = omega (arith, length-append h rest, length_xor (g.back b) s) in
      ap (λ (u : Bytes). Some (unpadded (p ++ u))) (first_block b r s sixteen) ∙ ap Some (unpadded-front p (h ++ rest) long)

  complete-advanced : (last : Last) (b : Bytes) → complete (advanced g last b) ≡ min 2 (complete last + 1)
  complete-advanced Nothing b = refl
  complete-advanced (Vector v) b = refl
  complete-advanced (Restored s p) b = refl

pub complete_most : (last : Last) → complete last ≤ 2
complete_most Nothing = omega arith
complete_most (Vector v) = omega arith
complete_most (Restored s p) = omega arith

released-length : (last : Last) → width last ≡ 16 → length (released last) ≡ (complete last - 1) * 16
released-length Nothing e = refl
released-length (Vector v) e = refl
released-length (Restored s p) e = e

pub after_nil : (o : Option Bytes) → o ≡ after [] o
after_nil None = refl
after_nil (Some v) = refl

-- With the bytes x of the block that is coming, it hands out w and has the bytes rest of the next block.
pub record Stepping (g : Permutation) (last : Last) (x : Bytes) (l : Last) (rest w : Bytes) : Type 0 where
  pub split : (y : Bytes) → remaining g last (x ++ y) ≡ after w (remaining g l (rest ++ y))
  pub hands : (m : ℕ) → (complete last + (length x + m) / 16 - 2) * 16 ≡ length w + (complete l + (length rest + m) / 16 - 2) * 16
  pub later : (m : ℕ) → min 1 (complete last + (length x + m) / 16 - 1) * 16 ≡ min 1 (complete l + (length rest + m) / 16 - 1) * 16

-- the block is complete with x, or not
module _ (g : Permutation) (last : Last) (x : Bytes) where
  step_less : Stepping g last x last x []
  step_less = record { split = λ y. after_nil (remaining g last (x ++ y)); hands = λ m. omega arith; later = λ m. refl }

  step-full : width last ≡ 16 → length x ≡ 16 → Stepping g last x (advanced g last x) [] (released last)
  step-full wide sixteen =
      let most = complete_most last in
      let next = complete-advanced g last x in
      let long = released-length last wide in
      record { split = λ y. block_done g last x y sixteen; hands = λ m. omega (arith, most, next, long, sixteen); later = λ m. omega (arith, most, next, sixteen) }

  pub stepping : (l : Last) (rest w : Bytes) → width last ≡ 16 → length x ≤ 16
      → (length x < 16 → (l ≡ last) × (w ≡ []) × (rest ≡ x))
      → (16 ≤ length x → (l ≡ advanced g last x) × (w ≡ released last) × (rest ≡ []))
      → Stepping g last x l rest w
  stepping l rest w wide most less full =
      let at : (k : Last) (r v : Bytes) → (l ≡ k) × (w ≡ v) × (rest ≡ r) → Stepping g last x k r v → Stepping g last x l rest w =
      λ k r v is s. subst (λ (u : Last). Stepping g last x u rest w) (sym is.0) (subst (λ (u : Bytes). Stepping g last x k u w) (sym is.2) (subst (Stepping g last x k r) (sym is.1) s)) in
      elim (cases_lt (length x) 16) [
        | inl short ↦ at last x [] (less short) step_less
        | inr long ↦ at (advanced g last x) [] (released last) (full long) (step-full wide (omega arith))
      ]

-- closing with less than a block behind the last one
module _ (g : Permutation) (part : Bytes) (few : length part < 16) where
  none_whole : length (part ++ []) / 16 ≡ 0
  none_whole = omega (arith, length-append part [])

  pub remaining-ended : (last : Last) → remaining g last (part ++ []) ≡ ended last
  unfolding decrypted plain unchained
  remaining-ended Nothing = ap (λ (t : Bool). cond t None (Some (restored g (part ++ [])))) (lt-ltb (length (part ++ [])) 16 (omega (arith, length-append part [])))
  remaining-ended (Vector v) = ap (λ (k : ℕ). Some (unpadded (unchained g.back k v (part ++ [])))) none_whole ∙ ap Some unpadded_none
  remaining-ended (Restored stored plain) = ap (λ (k : ℕ). Some (unpadded (plain ++ unchained g.back k stored (part ++ [])))) none_whole ∙ ap (λ (u : Bytes). Some (unpadded u)) (append-nil plain)

pub closing_room : (last : Last) → width last ≡ 16 → length (listed (ended last)) ≤ (complete last - 1) * 16
closing_room Nothing wide = omega arith
closing_room (Vector v) wide = omega arith
closing_room (Restored stored plain) wide = omega (arith, unpadded-length plain, wide)

-- what is still to be handed out fits
some_is : (t : Bool) (u w : Bytes) → cond t None (Some u) ≡ Some w → (t ≡ false) × (u ≡ w)
some_is true u w e = let z : ◌≡◌ {A = ℕ} 0 1 = cc in absurd (omega arith)
some_is false u w e = (refl, cc)

decrypted_most : (g : Permutation) (v y : Bytes) → length (decrypted g true v y) ≤ length y / 16 * 16
unfolding decrypted plain
decrypted_most g v y = let u : Bytes = unchained g.back (length y / 16) v y in omega (arith, unpadded-length u, unchained-length g.back (length y / 16) v y)

remaining_most : (g : Permutation) (last : Last) (y w : Bytes) → width last ≡ 16 → remaining g last y ≡ Some w → length w ≤ (complete last + length y / 16 - 1) * 16
unfolding restored
remaining_most g Nothing y w wide e =
    let is = some_is (nat_lt (length y) 16) (restored g y) w e in
    let long = ltb-false (length y) 16 is.0 in
    let most = decrypted_most g (take 16 y) (drop 16 y) in
    let l = ap length is.1 in
    omega (arith, long, most, l, length-drop 16 y)
remaining_most g (Vector v) y w wide e =
    let is : decrypted g true v y ≡ w = cc in
    omega (arith, decrypted_most g v y, ap length is)
remaining_most g (Restored s p) y w wide e =
    let z : Bytes = p ++ unchained g.back (length y / 16) s y in
    let is : unpadded (p ++ unchained g.back (length y / 16) s y) ≡ w = cc in
    omega (arith, wide, ap length is, unpadded-length z, length-append p (unchained g.back (length y / 16) s y), unchained-length g.back (length y / 16) s y)

pub behind_fits : (g : Permutation) (last : Last) (part : Bytes) → width last ≡ 16 → length part < 16 → Fits (behind g last part)
behind_fits g last part wide few = record {
  closing = λ w e. let m = remaining_most g last (part ++ []) w wide e in omega (arith, m, length-append part []);
  whole = λ x w e. let m = remaining_most g last (part ++ x) w wide e in omega (arith, m, length-append part x);
}

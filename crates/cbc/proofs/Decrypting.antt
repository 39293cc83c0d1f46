-- The complete blocks unchained, the last one without what goes of it.
use Rattle.std.proofs.Common.{◌≡◌, ℕ, ◌+◌, ◌-◌, ◌*◌, ◌/◌, ◌≤◌, Bool, true, [], ◌++◌, length, take, drop, Option, sym, ap, ◌∙◌, subst, ap₂, arith}
use Rattle.std.proofs.lemmas.List.{append_assoc, append-nil, length-append, length-drop, length-take-le, take_all, drop-drop}
use Rattle.byte_strings.specs.Bytes.{Bytes, Writes}
use Rattle.aes.specs.BlockCipher.{Permutation}
use Rattle.cbc.specs.Blocks.{xor_blocks}
use Rattle.cbc.specs.Pad.{cut_by}
use Rattle.cbc.specs.Chaining.{unchained, complete_length, plain, removed, decrypted, restored, Written}
use Rattle.cbc.proofs.PaddingLaws.{cut_front}
use Rattle.cbc.proofs.Walking.{Walking, length_xor}

module _ (p : Permutation) (unpad : Bool) (iv y : Bytes) where
  pub decrypted_none : length y / 16 ≡ 0 → decrypted p unpad iv y ≡ []
  unfolding decrypted plain unchained
  decrypted_none e =
      ap (λ (n : ℕ). cut_by (removed unpad (unchained p.back n iv y)) (unchained p.back n iv y)) e
      ∙ take_all (0 - removed unpad []) [] (omega arith)

  module _ (n : ℕ) (before last out₀ out : Bytes) (some : length y / 16 ≡ n + 1) (room : n * 16 ≤ length out₀)
      (inv : Walking (unchained p.back) (length y / 16) iv y out₀ n before out) (last_is : last ≡ xor_blocks (p.back (take 16 (drop (n * 16) y))) before) where
    abbrev kept : ℕ
    kept = 16 - removed unpad last

    sixteen : length last ≡ 16
    sixteen = ap length last_is ∙ length_xor (p.back (take 16 (drop (n * 16) y))) before

    decrypted_split : decrypted p unpad iv y ≡ take (n * 16) out ++ take kept last
    unfolding decrypted plain unchained
    decrypted_split =
        let b : Bytes = drop (n * 16) y in
        let one : length y / 16 - n ≡ 1 = omega arith in
        let z : unchained p.back (length y / 16 - n) before b ≡ last =
        ap (λ (k : ℕ). unchained p.back k before b) one ∙ append-nil (xor_blocks (p.back (take 16 b)) before) ∙ sym last_is in
        ap (λ (u : Bytes). cut_by (removed unpad u) u) (sym inv.whole ∙ ap (λ (u : Bytes). take (n * 16) out ++ u) z)
        ∙ cut_front unpad (take (n * 16) out) last sixteen

    front_length : length (take (n * 16) out) ≡ n * 16
    front_length = length-take-le (n * 16) out (omega (arith, inv.long))

    kept-length : length (take kept last) ≡ kept
    kept-length = length-take-le kept last (omega (arith, sixteen))

    pub decrypted-length : n * 16 + kept ≡ length (decrypted p unpad iv y)
    decrypted-length =
        sym (ap length decrypted_split ∙ length-append (take (n * 16) out) (take kept last) ∙ ap₂ ◌+◌ front_length kept-length)

    pub decrypted-written : (out' : Bytes) → out' ≡ take (n * 16) out ++ (take kept last ++ drop (n * 16 + kept) out) → Writes (decrypted p unpad iv y) out₀ out'
    decrypted-written out' is =
        let rest : drop (n * 16 + kept) out ≡ drop (length (decrypted p unpad iv y)) out₀ =
        sym (drop-drop kept (n * 16) out) ∙ ap (drop kept) inv.rest ∙ drop-drop kept (n * 16) out₀ ∙ ap (λ (m : ℕ). drop m out₀) decrypted-length in
        is ∙ ap (λ (u : Bytes). take (n * 16) out ++ (take kept last ++ u)) rest
        ∙ sym (append_assoc (take (n * 16) out) (take kept last) (drop (length (decrypted p unpad iv y)) out₀))
        ∙ ap (λ (u : Bytes). u ++ drop (length (decrypted p unpad iv y)) out₀) (sym decrypted_split)

-- what is behind the start vector goes to the chaining
pub restored_written : (p : Permutation) (stored v y : Bytes) (r : Option ℕ) (old new : Bytes) → v ≡ take 16 stored → y ≡ drop 16 stored
    → Written (complete_length (length y)) (decrypted p true v y) r old new → Written (complete_length (length stored - 16)) (restored p stored) r old new
unfolding restored
restored_written p stored v y r old new v-is y-is is =
    let w : decrypted p true v y ≡ decrypted p true (take 16 stored) (drop 16 stored) = ap₂ (λ (a b : Bytes). decrypted p true a b) v-is y-is in
    subst (λ (m : ℕ). Written (complete_length m) (decrypted p true (take 16 stored) (drop 16 stored)) r old new) (ap length y-is ∙ length-drop 16 stored)
    (subst (λ (u : Bytes). Written (complete_length (length y)) u r old new) w is)

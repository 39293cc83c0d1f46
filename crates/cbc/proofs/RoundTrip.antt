-- Restoring what was protected gives the original.
use Rattle.std.proofs.Common.{◌≡◌, ℕ, zero, suc, ◌+◌, ◌*◌, ◌/◌, true, [], ◌∷◌, ◌++◌, length, get_or, take, drop, replicate, refl, ap, ◌∙◌, ap₂, arith}
use lib.Bits.{bit_xor}
use Rattle.std.proofs.lemmas.List.{length-append, length-drop, length-replicate, length-take-le, take-append-drop}
use Rattle.byte_strings.specs.Bytes.{Bytes, Octets}
use Rattle.aes.specs.BlockCipher.{Block, Permutation, Invertible}
use Rattle.aes.specs.FieldLaws.{undo_xor, byte_xor}
use Rattle.aes.specs.StateLaws.{each_block, each_undone}
use Rattle.cbc.specs.Blocks.{xor_blocks}
use Rattle.cbc.specs.Pad.{pad_length, padded, padding_of, cut_by}
use Rattle.cbc.specs.Chaining.{chained, unchained, padded_length, encrypted, plain, decrypted, protected, restored, RoundTrip}
use Rattle.cbc.proofs.Parts.{take_bytes, drop_bytes, append_bytes, replicate_bytes, take_seam, drop_seam}
use Rattle.cbc.proofs.PaddingLaws.{pad_undone}

pub xor_block : (a b : Bytes) → Block a → Block b → Block (xor_blocks a b)
unfolding xor_blocks
xor_block a b ha hb = each_block (λ i x. bit_xor x (get_or b i 0)) (λ i x h. byte_xor h (hb.1 i)) a ha

pub xor_undone : (a b : Bytes) → Block a → xor_blocks (xor_blocks a b) b ≡ a
unfolding xor_blocks
xor_undone a b = each_undone (λ i x. bit_xor x (get_or b i 0)) (λ i x. bit_xor x (get_or b i 0)) (λ i x h. undo_xor x (get_or b i 0)) a

module _ (f g : Bytes → Bytes) (gives : (s : Bytes) → Block s → Block (f s)) (undone : (s : Bytes) → Block s → g (f s) ≡ s) where
  front-block : (n : ℕ) (x : Bytes) → length x ≡ suc n * 16 → Octets x → Block (take 16 x)
  front-block n x l h = (length-take-le 16 x (omega arith), take_bytes 16 x h)

  rest_length : (n : ℕ) (x : Bytes) → length x ≡ suc n * 16 → length (drop 16 x) ≡ n * 16
  rest_length n x l = length-drop 16 x ∙ omega arith

  chained-length : (n : ℕ) (before x : Bytes) → Block before → length x ≡ n * 16 → Octets x → length (chained f n before x) ≡ n * 16
  unfolding chained
  chained-length zero before x b l h = refl
  chained-length (suc n) before x b l h =
      let y : Bytes = f (xor_blocks (take 16 x) before) in
      let by : Block y = gives (xor_blocks (take 16 x) before) (xor_block (take 16 x) before (front-block n x l h) b) in
      let r : length (chained f n y (drop 16 x)) ≡ n * 16 = chained-length n y (drop 16 x) by (rest_length n x l) (drop_bytes 16 x h) in
      length-append y (chained f n y (drop 16 x)) ∙ omega (arith, by.0, r)

  chain_undone : (n : ℕ) (before x : Bytes) → Block before → length x ≡ n * 16 → Octets x → unchained g n before (chained f n before x) ≡ x
  unfolding chained unchained
  chain_undone zero [] x b l h = absurd (omega (arith, b.0))
  chain_undone zero (z ∷ before) [] b l h = refl
  chain_undone zero (z ∷ before) (w ∷ x) b l h = absurd (omega arith)
  chain_undone (suc n) before x b l h =
      let t : Bytes = xor_blocks (take 16 x) before in
      let bt : Block t = xor_block (take 16 x) before (front-block n x l h) b in
      let y : Bytes = f t in
      let by : Block y = gives t bt in
      let rest : Bytes = chained f n y (drop 16 x) in
      ap₂ (λ (u v : Bytes). xor_blocks (g u) before ++ unchained g n u v) (take_seam 16 y rest by.0) (drop_seam 16 y rest by.0)
      ∙ ap₂ (λ (u v : Bytes). xor_blocks u before ++ v) (undone t bt) (chain_undone n y (drop 16 x) by (rest_length n x l) (drop_bytes 16 x h))
      ∙ ap (λ (u : Bytes). u ++ drop 16 x) (xor_undone (take 16 x) before (front-block n x l h))
      ∙ take-append-drop 16 x

-- over a block cipher
module _ (p : Permutation) (law : Invertible p) (iv x : Bytes) (b : Block iv) (h : Octets x) where
  abbrev pad : ℕ
  pad = pad_length (length x)

  abbrev blocks : ℕ
  blocks = length x / 16 + 1

  long : length (padded x) ≡ blocks * 16
  long = length-append x (replicate pad pad) ∙ omega (arith, length-replicate pad pad)

  octets : Octets (padded x)
  octets = append_bytes x (replicate pad pad) h (replicate_bytes pad pad (omega arith))

  pub encrypted-length : length (encrypted p iv x) ≡ padded_length (length x)
  unfolding encrypted
  encrypted-length = chained-length p.forward p.back law.forward_block law.undone blocks iv (padded x) b long octets

  plain-again : plain p iv (encrypted p iv x) ≡ padded x
  unfolding plain encrypted
  plain-again =
      let n : length (encrypted p iv x) / 16 ≡ blocks = omega (arith, encrypted-length) in
      ap (λ (m : ℕ). unchained p.back m iv (encrypted p iv x)) n
      ∙ chain_undone p.forward p.back law.forward_block law.undone blocks iv (padded x) b long octets

  decrypted-again : decrypted p true iv (encrypted p iv x) ≡ x
  unfolding decrypted
  decrypted-again = ap (λ (u : Bytes). cut_by (padding_of u) u) plain-again ∙ pad_undone x

  pub round_trip : RoundTrip p iv x
  unfolding protected restored
  round_trip = record {
    long = length-append iv (encrypted p iv x) ∙ omega (arith, b.0, encrypted-length);
    back =
        ap₂ (λ (u v : Bytes). decrypted p true u v) (take_seam 16 iv (encrypted p iv x) b.0) (drop_seam 16 iv (encrypted p iv x) b.0)
        ∙ decrypted-again;
  }

-- The round keys as chunks of four words of the schedule.
use Rattle.std.proofs.Common.{◌≡◌, ℕ, ◌+◌, ◌*◌, ◌/◌, ◌%◌, ◌<◌, ◌≤◌, List, [], ◌∷◌, ◌++◌, length, get_or, take, drop, sym, ap, ◌∙◌, zero-add, arith}
use lib.Bits.{bit_xor}
use Rattle.std.specs.Simd.{first_chunks}
use Rattle.std.proofs.lemmas.List.{get_or-take, take-take, length_push}
use Rattle.std.proofs.Math.Seq.{get_or-append_seam, take-append_seam}
use Rattle.std.proofs.lemmas.Grind.{get_or_after_one}
use Rattle.byte_strings.specs.Bytes.{Bytes}
use Rattle.aes.specs.State.{add_round_key}
use Rattle.aes.specs.StateLaws.{block_same}
use Rattle.aes.proofs.Chunks.{chunk_at}

module _ (w : List Bytes) (keys : List (List Bytes)) (e : keys ≡ first_chunks 4 (length w / 4) w) where
  pub key_of : (n : ℕ) (s : Bytes) → n < length w / 4 → add_round_key (get_or keys n []) 0 s ≡ add_round_key w n s
  unfolding add_round_key
  key_of n s h =
      block_same (λ i. bit_xor (get_or s i 0) (get_or (get_or (get_or keys n []) (0 * 4 + i / 4) []) (i % 4) 0)) (λ i. bit_xor (get_or s i 0) (get_or (get_or w (n * 4 + i / 4) []) (i % 4) 0))
      (λ i l. ap (λ x. bit_xor (get_or s i 0) (get_or x (i % 4) 0))
      (ap (λ j. get_or (get_or keys n []) j []) (zero-add (i / 4)) ∙ ap (λ ks. get_or (get_or ks n []) (i / 4) []) e ∙ chunk_at [] w (length w / 4) n (i / 4) h (omega arith)))

  -- a key of those behind the first
  pub middle_key : (m i : ℕ) (s : Bytes) → i < m → i + 1 < length w / 4 → add_round_key (get_or (take m (drop 1 keys)) i []) 0 s ≡ add_round_key w (i + 1) s
  middle_key m i s l h =
      let f : 1 + i ≡ i + 1 = omega arith in
      ap (λ k. add_round_key k 0 s) (get_or-take m (drop 1 keys) i [] l ∙ get_or_after_one keys i [] ∙ ap (λ j. get_or keys j []) f) ∙ key_of (i + 1) s h

  -- the keys behind the first, taken from the last on
  module _ (rest front : List (List Bytes)) (x : List Bytes) (p : rest ≡ front ++ x ∷ []) (inv : rest ≡ take (length rest) (drop 1 keys)) where
    pub one_less : length front + 1 ≡ length rest
    one_less = sym (ap length p ∙ length_push front x)

    pub front_of : front ≡ take (length front) (drop 1 keys)
    front_of =
        let l : length front ≤ length rest = omega (arith, one_less) in
        sym (take-append_seam front (x ∷ [])) ∙ ap (take (length front)) (sym p ∙ inv) ∙ take-take (length front) (length rest) (drop 1 keys) l

    pub last_key : (s : Bytes) → length rest < length w / 4 → add_round_key x 0 s ≡ add_round_key w (length front + 1) s
    last_key s h =
        let l : length front < length rest = omega (arith, one_less) in
        ap (λ k. add_round_key k 0 s) (sym (get_or-append_seam front x [] []) ∙ ap (λ ks. get_or ks (length front) []) (sym p ∙ inv)) ∙ middle_key (length rest) (length front) s l (omega (arith, one_less))

-- The last steps: the padding completes the last block.
use Rattle.std.proofs.Common.{◌≡◌, ℕ, suc, ◌+◌, ◌-◌, ◌*◌, ◌/◌, ◌%◌, ◌^◌, ◌<◌, ◌≤◌, ◌⊎◌, List, [], ◌∷◌, ◌++◌, length, take, replicate, sym, refl, ap, ◌∙◌, ap₂, inl, inr, add-zero, arith}
use Rattle.std.proofs.lemmas.List.{take-replicate, append-nil, length-take-le}
use Rattle.md5_digest.specs.declared.Md5.{Md5}
use Rattle.md5_digest.specs.Md5.{low_bytes, padding, digest}
use Rattle.md5_digest.specs.Stream.{absorbing, digest_after}
use Rattle.md5_digest.proofs.Padding.{low_bytes_same}

-- the code's table of filling bytes
abbrev pub filler : List ℕ
filler = 128 ∷ replicate 63 0

-- how many bytes bring a count to 56 modulo 64
abbrev pub Fills : ℕ → ℕ → Type 0
Fills n fill = (n % 64 + fill ≡ 56) ⊎ (n % 64 + fill ≡ 120)

module _ (n fill : ℕ) (range : (0 < fill) × (fill ≤ 64)) (fills : Fills n fill) where
  zeros_is : fill - 1 ≡ (119 - n % 64) % 64
  zeros_is = elim fills [ inl e ↦ omega arith | inr e ↦ omega arith ]

  -- the front of the table, behind its first byte, and the length in bits are the padding
  pub padding_is : (bits : List ℕ) → bits ≡ low_bytes 8 ((n * 8) % 2 ^ 64) → take fill filler ++ bits ≡ padding n
  unfolding padding
  padding_is bits e =
      let positive : fill ≡ suc (fill - 1) = omega arith in
      let few : fill - 1 ≤ 63 = omega arith in
      let front : take fill filler ≡ 128 ∷ replicate ((119 - n % 64) % 64) 0 =
      ap (λ k. take k filler) positive
      ∙ ap (λ zs. 128 ∷ zs) (take-replicate (fill - 1) 63 0 few ∙ ap (λ k. replicate k 0) zeros_is) in
      let all_bits : 8 * n ≡ (n * 8) % 2 ^ 64 + (n * 8 / 2 ^ 64) * 256 ^ 8 = omega arith in
      ap₂ ◌++◌ front (e ∙ sym (low_bytes_same 8 (8 * n) ((n * 8) % 2 ^ 64) (n * 8 / 2 ^ 64) all_bits))

  -- the same for `&PADDING[0..fill]`, whose length is `fill - 0`
  pub padding_part : (bits : List ℕ) → bits ≡ low_bytes 8 ((n * 8) % 2 ^ 64) → take (fill - 0) filler ++ bits ≡ padding n
  padding_part bits e =
      let part : fill - 0 ≡ fill = omega arith in
      ap (λ k. take k filler ++ bits) part ∙ padding_is bits e

pub length_part : (fill : ℕ) → (0 < fill) × (fill ≤ 64) → length (take (fill - 0) filler) ≡ fill
length_part fill range =
    let part : fill - 0 ≡ fill = omega arith in
    length-take-le (fill - 0) filler (omega arith) ∙ part

-- a state that holds no byte of an open block has the registers of all that it was given
complete : (m : Md5) → m.count % 64 ≡ 0 → m.chain ≡ absorbing m []
unfolding absorbing
complete m e = rw e refl

pub finished : (m m1 m2 : Md5) (front bits : List ℕ) → front ++ bits ≡ padding m.count →
    ((more : List ℕ) → absorbing m1 more ≡ absorbing m (front ++ more)) →
    ((more : List ℕ) → absorbing m2 more ≡ absorbing m1 (bits ++ more)) →
    m2.count % 64 ≡ 0 → digest m2.chain ≡ digest_after m []
unfolding digest_after
finished m m1 m2 front bits pad first second whole =
    ap digest (
    complete m2 whole ∙ second [] ∙ first (bits ++ [])
    ∙ ap (λ xs. absorbing m (front ++ xs)) (append-nil bits)
    ∙ ap (absorbing m) (pad ∙ ap padding (sym (add-zero m.count))))

-- the count after the padding
pub whole-blocks : (n n1 n2 fill front bits : ℕ) → Fills n fill → front ≡ fill → bits ≡ 8 → n1 ≡ (n + front) % 2 ^ 64 → n2 ≡ (n1 + bits) % 2 ^ 64 → n2 % 64 ≡ 0
whole-blocks n n1 n2 fill front bits fills ef eb e1 e2 =
    let first : n1 % 64 ≡ (n + fill) % 64 = omega arith in
    let second : n2 % 64 ≡ (n1 + 8) % 64 = omega arith in
    elim fills [ inl e ↦ omega arith | inr e ↦ omega arith ]

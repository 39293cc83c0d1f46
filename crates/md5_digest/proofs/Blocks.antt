-- The words of a block, and the blocks of a message.
use Rattle.std.proofs.Common.{◌≡◌, ℕ, zero, suc, ◌+◌, ◌-◌, ◌*◌, ◌/◌, ◌%◌, ◌^◌, ◌<◌, ◌≤◌, List, [], ◌∷◌, ◌++◌, length, get_or, take, drop, set, sym, refl, ap, ◌∙◌, ap₂, append_assoc, arith, length-append}
use Rattle.std.proofs.lemmas.List.{take_more_set, take_rest, take_all, take_at, drop_at, drop-drop, drop_all, append-nil, length-take-le}
use Rattle.std.proofs.lemmas.Slice.{take-put_mid}
use Rattle.std.specs.Simd.{first_chunks}
use borrow.Rule.Slice.PartMut.{put_mid, post_of}
use Rattle.md5_digest.specs.declared.Registers.{Registers}
use Rattle.md5_digest.specs.Md5.{number, words, compressed, blocks, absorbed}

-- four bytes as the code adds them up
abbrev pub joined_four : List ℕ → ℕ
joined_four xs = get_or xs 0 0 + get_or xs 1 0 * 256 + get_or xs 2 0 * 65536 + get_or xs 3 0 * 16777216

pub number-four : (xs : List ℕ) → 4 ≤ length xs → number (take 4 xs) ≡ joined_four xs
number-four [] h = let z : ⊥ = omega arith in absurd z
number-four (a ∷ []) h = let z : ⊥ = omega arith in absurd z
number-four (a ∷ (b ∷ [])) h = let z : ⊥ = omega arith in absurd z
number-four (a ∷ (b ∷ (c ∷ []))) h = let z : ⊥ = omega arith in absurd z
number-four (a ∷ (b ∷ (c ∷ (d ∷ rest)))) h = omega arith

-- one word more: the rest as a slice pattern names it
pub words_more : (ws left : List ℕ) (i w : ℕ) → i < 16 → length ws ≡ 16 → 4 ≤ length left → w ≡ joined_four left →
    take (i + 1) (set ws i w) ++ words (16 - (i + 1)) (take (length left - 4) (drop 4 left)) ≡ take i ws ++ words (16 - i) left
unfolding words
words_more ws left i w h len four is =
    let wrote = take_more_set ws i w (omega arith) in
    let e : 16 - i ≡ suc (16 - (i + 1)) = omega arith in
    rw (wrote, e, take_rest left 4, append_assoc) (ap (λ x. take i ws ++ (x ∷ words (16 - (i + 1)) (drop 4 left))) (is ∙ sym (number-four left four)))

pub words_all : (ws left : List ℕ) (i : ℕ) → i ≡ 16 → length ws ≡ 16 → ws ≡ take i ws ++ words (16 - i) left
unfolding words
words_all ws left i e len =
    let none : 16 - i ≡ 0 = omega arith in
    let all = take_all i ws (omega arith) in
    rw (none, all, append-nil) refl

-- one complete block in front of the rest
pub absorbed-block : (h : Registers) (block rest : List ℕ) → length block ≡ 64 → absorbed h (block ++ rest) ≡ absorbed (compressed h block) rest
absorbed-block h block rest len =
    let count : length (block ++ rest) / 64 ≡ suc (length rest / 64) = simp length-append (omega arith) in
    ap (λ n. blocks h n (block ++ rest)) count
    ∙ ap₂ (λ xs ys. blocks (compressed h xs) (length rest / 64) ys) (take_at block rest 64 len) (drop_at block rest 64 len)

module _ (h : Registers) (buffer part more : List ℕ) (n k : ℕ) (len : length buffer ≡ 64) (long : length part ≡ k) where
  -- a part that does not complete the open block
  pub part_held : n % 64 + k < 64 → absorbed h (take ((n + k) % 2 ^ 64 % 64) (put_mid (n % 64) (n % 64 + k - n % 64) buffer part) ++ more) ≡ absorbed h (take (n % 64) buffer ++ (part ++ more))
  part_held short =
      let at : (n + k) % 2 ^ 64 % 64 ≡ n % 64 + length part = omega arith in
      let wrote = take-put_mid (n % 64) (n % 64 + k - n % 64) buffer part (n % 64 + length part) refl (omega arith) in
      rw (at, wrote, append_assoc) refl

  -- one that completes it
  pub part_absorbed : n % 64 + k ≡ 64 → absorbed (compressed h (put_mid (n % 64) (n % 64 + k - n % 64) buffer part)) (take ((n + k) % 2 ^ 64 % 64) (put_mid (n % 64) (n % 64 + k - n % 64) buffer part) ++ more) ≡ absorbed h (take (n % 64) buffer ++ (part ++ more))
  part_absorbed full =
      let filled = put_mid (n % 64) (n % 64 + k - n % 64) buffer part in
      let at : (n + k) % 2 ^ 64 % 64 ≡ 0 = omega arith in
      let front : length (take (n % 64) buffer) ≡ n % 64 = length-take-le (n % 64) buffer (omega arith) in
      let end : post_of (n % 64) (n % 64 + k - n % 64) buffer ≡ [] = drop-drop (n % 64 + k - n % 64) (n % 64) buffer ∙ drop_all (n % 64 + (n % 64 + k - n % 64)) buffer (omega arith) in
      let whole : put_mid (n % 64) (n % 64 + k - n % 64) buffer part ≡ take (n % 64) buffer ++ part = ap (λ xs. take (n % 64) buffer ++ (part ++ xs)) end ∙ ap (λ xs. take (n % 64) buffer ++ xs) (append-nil part) in
      let len' : length (put_mid (n % 64) (n % 64 + k - n % 64) buffer part) ≡ 64 = ap length whole ∙ simp (length-append) (omega arith) in
      let block = absorbed-block h filled more len' in
      rw at (sym block ∙ ap (λ xs. absorbed h (xs ++ more)) whole ∙ ap (absorbed h) (append_assoc (take (n % 64) buffer) part more))

-- a whole block, where no byte of an open block is held
pub block-absorbed : (h : Registers) (buffer block more : List ℕ) (n : ℕ) → n % 64 ≡ 0 → length block ≡ 64 →
    absorbed (compressed h block) (take ((n + 64) % 2 ^ 64 % 64) buffer ++ more) ≡ absorbed h (take (n % 64) buffer ++ (block ++ more))
block-absorbed h buffer block more n e len =
    let at : (n + 64) % 2 ^ 64 % 64 ≡ 0 = omega arith in
    rw (at, e) (sym (absorbed-block h block more len))

-- a slice's chunk is a part of it
pub chunk_at : (k : ℕ) (xs d : List ℕ) (n i : ℕ) → i < n → get_or (first_chunks k n xs) i d ≡ take k (drop (i * k) xs)
chunk_at k xs d zero i h = let z : ⊥ = omega arith in absurd z
chunk_at k xs d (suc n) zero h = let e : 0 ≡ 0 * k = omega arith in ap (λ j. take k (drop j xs)) e
chunk_at k xs d (suc n) (suc i) h =
    let e : k + i * k ≡ suc i * k = omega arith in
    chunk_at k (drop k xs) d n i (omega arith) ∙ ap (take k) (drop-drop (i * k) k xs ∙ ap (λ j. drop j xs) e)

-- The equivalent inverse cipher, under the inverse schedule, is the inverse cipher.
use Rattle.std.proofs.Common.{◌≡◌, ℕ, zero, suc, ◌+◌, ◌-◌, ◌*◌, ◌/◌, ◌%◌, ◌<◌, ◌≤◌, Bool, true, false, cond, ◌||◌, ltb, leb, List, [], ◌++◌, length, get_or, take, drop, sym, refl, ap, ◌∙◌, ap₂, ⊎_elim, zero-add, arith, length-append, length-drop}
use lib.Bits.{bit_xor}
use Rattle.std.proofs.lemmas.List.FromFn.{get_or-map-range_with_len, length-map-range_with_len, fill_by_all}
use Rattle.std.proofs.lemmas.List.{get_or-take, get_or-drop, get_or_append_left, get_or-append_right, length-take-le}
use Rattle.std.proofs.lemmas.Bool.{cases_lt, lt-ltb, le-ltb, le-leb, lt-leb}
use Rattle.byte_strings.specs.Bytes.{Bytes}
use Rattle.aes.specs.BlockCipher.{Block}
use Rattle.aes.specs.Field.{product}
use Rattle.aes.specs.State.{block, sum4, inv_mix_column, inv_sub_bytes, inv_shift_rows, inv_mix_columns, add_round_key}
use Rattle.aes.specs.Cipher.{inv_rounds, inv_cipher, eq_inv_rounds, eq_inv_cipher}
use Rattle.aes.specs.Keys.{Words, inverse_word, inverse_schedule}
use Rattle.aes.specs.FieldLaws.{add4, product_xor}
use Rattle.aes.specs.StateLaws.{block_same, cons4, add_block, inv_sub_block, inv_shift_block, inv_mix_block}

pub schedule_length : (w : List Bytes) → length (inverse_schedule w) ≡ length w
unfolding inverse_schedule
schedule_length w = length-map-range_with_len (inverse_word w) 0 (length w)

-- a choice whose test is known
chosen : (x y : Bytes) (p q : Bool) → q ≡ true → cond (p || q) x y ≡ x
chosen x y true q e = refl
chosen x y false q e = ap (λ t. cond t x y) e

-- the first and the last four words of w, and between them what InvMixColumns makes of the others
pub inverse_of : (w mid : List Bytes) (n : ℕ) → length w ≡ n → 8 ≤ n → length mid ≡ n - 8 → ((k : ℕ) → k < n - 8 → get_or mid k [] ≡ inv_mix_column (get_or w (4 + k) []))
    → take 4 w ++ (mid ++ drop (n - 4 - 4) (drop 4 w)) ≡ inverse_schedule w
unfolding inverse_schedule
inverse_of w mid n long h few each =
    let end : List Bytes = drop (n - 4 - 4) (drop 4 w) in
    let four : length (take 4 w) ≡ 4 = length-take-le 4 w (omega arith) in
    let stays : ℕ → Bytes = λ k. get_or w k [] in
    fill_by_all (inverse_word w) (take 4 w ++ (mid ++ end)) (length w) []
    (omega (arith, length-append (take 4 w) (mid ++ end), length-append mid end, length-drop (n - 4 - 4) (drop 4 w), length-drop 4 w))
    (λ k l.
    ⊎_elim
    (λ a. get_or_append_left (take 4 w) (mid ++ end) [] k (omega arith) ∙ get_or-take 4 w k [] a
    ∙ sym (ap (λ t. cond (t || leb (length w) (k + 4)) (stays k) (inv_mix_column (stays k))) (lt-ltb k 4 a)))
    (λ b.
    get_or-append_right (take 4 w) (mid ++ end) 4 k [] four b
    ∙ ⊎_elim
    (λ c.
    let e : 4 + (k - 4) ≡ k = omega arith in
    get_or_append_left mid end [] (k - 4) (omega arith) ∙ each (k - 4) (omega arith) ∙ ap (λ i. inv_mix_column (stays i)) e
    ∙ sym (ap₂ (λ t u. cond (t || u) (stays k) (inv_mix_column (stays k))) (le-ltb k 4 b) (lt-leb (length w) (k + 4) (omega arith))))
    (λ d.
    let e : 4 + (n - 4 - 4 + (k - 4 - (n - 8))) ≡ k = omega arith in
    get_or-append_right mid end (n - 8) (k - 4) [] few (omega arith) ∙ get_or-drop (n - 4 - 4) (drop 4 w) (k - 4 - (n - 8)) [] ∙ get_or-drop 4 w (n - 4 - 4 + (k - 4 - (n - 8))) [] ∙ ap stays e
    ∙ sym (chosen (stays k) (inv_mix_column (stays k)) (ltb k 4) (leb (length w) (k + 4)) (le-leb (length w) (k + 4) (omega arith))))
    (cases_lt k (n - 4)))
    (cases_lt k 4))

-- the matrix over a sum of two columns
sums : (p q r t a b c d k l m n : ℕ) → a < 256 → b < 256 → c < 256 → d < 256 → k < 256 → l < 256 → m < 256 → n < 256
    → bit_xor (sum4 (product p a) (product q b) (product r c) (product t d)) (sum4 (product p k) (product q l) (product r m) (product t n))
    ≡ sum4 (product p (bit_xor a k)) (product q (bit_xor b l)) (product r (bit_xor c m)) (product t (bit_xor d n))
sums p q r t a b c d k l m n ha hb hc hd hk hl hm hn =
    add4 (product p a) (product q b) (product r c) (product t d) (product p k) (product q l) (product r m) (product t n)
    ∙ sym (ap₂ bit_xor (ap₂ bit_xor (product_xor p a k ha hk) (product_xor q b l hb hl)) (ap₂ bit_xor (product_xor r c m hc hm) (product_xor t d n hd hn)))

commuted : (s : Bytes) → inv_shift_rows (inv_sub_bytes s) ≡ inv_sub_bytes (inv_shift_rows s)
unfolding inv_shift_rows inv_sub_bytes
commuted s = refl

module _ (w : List Bytes) (k : Words w) (nr : ℕ) (long : length w ≡ nr * 4 + 4) where
  abbrev dw : List Bytes
  dw = inverse_schedule w

  word_at : (i : ℕ) → i < length w → get_or dw i [] ≡ inverse_word w i
  unfolding inverse_schedule
  word_at i h = get_or-map-range_with_len (inverse_word w) 0 (length w) i i [] h (zero-add i)

  word_first : (i : ℕ) → i < length w → i < 4 → get_or dw i [] ≡ get_or w i []
  word_first i h l = word_at i h ∙ ap (λ t. cond (t || leb (length w) (i + 4)) (get_or w i []) (inv_mix_column (get_or w i []))) (lt-ltb i 4 l)

  word-last : (i : ℕ) → i < length w → length w ≤ i + 4 → get_or dw i [] ≡ get_or w i []
  word-last i h l = word_at i h ∙ chosen (get_or w i []) (inv_mix_column (get_or w i [])) (ltb i 4) (leb (length w) (i + 4)) (le-leb (length w) (i + 4) l)

  word_inner : (i : ℕ) → 4 ≤ i → i + 4 < length w → get_or dw i [] ≡ inv_mix_column (get_or w i [])
  word_inner i l h =
      word_at i (omega arith)
      ∙ ap₂ (λ t u. cond (t || u) (get_or w i []) (inv_mix_column (get_or w i []))) (le-ltb i 4 l) (lt-leb (length w) (i + 4) h)

  -- the round keys that stay
  kept : (n : ℕ) (s : Bytes) → ((c : ℕ) → c < 4 → get_or dw (n * 4 + c) [] ≡ get_or w (n * 4 + c) []) → add_round_key dw n s ≡ add_round_key w n s
  unfolding add_round_key
  kept n s e =
      block_same (λ i. bit_xor (get_or s i 0) (get_or (get_or dw (n * 4 + i / 4) []) (i % 4) 0)) (λ i. bit_xor (get_or s i 0) (get_or (get_or w (n * 4 + i / 4) []) (i % 4) 0))
      (λ i h. ap (λ x. bit_xor (get_or s i 0) (get_or x (i % 4) 0)) (e (i / 4) (omega arith)))

  kept_first : (s : Bytes) → add_round_key dw 0 s ≡ add_round_key w 0 s
  kept_first s = kept 0 s (λ c h. word_first (0 * 4 + c) (omega arith) (omega arith))

  kept-last : (s : Bytes) → add_round_key dw nr s ≡ add_round_key w nr s
  kept-last s = kept nr s (λ c h. word-last (nr * 4 + c) (omega arith) (omega arith))

  -- the round keys between, through InvMixColumns
  module _ (n : ℕ) (s : Bytes) (b : Block s) where
    abbrev at : ℕ → ℕ
    at i = get_or s i 0

    abbrev key : ℕ → ℕ → ℕ
    key c i = get_or (get_or w (n * 4 + c) []) i 0

    share : (c i j l m p q r t : ℕ)
        → bit_xor (sum4 (product 14 (at i)) (product 11 (at j)) (product 13 (at l)) (product 9 (at m)))
        (sum4 (product 14 (key c p)) (product 11 (key c q)) (product 13 (key c r)) (product 9 (key c t)))
        ≡ sum4 (product 14 (bit_xor (at i) (key c p))) (product 11 (bit_xor (at j) (key c q))) (product 13 (bit_xor (at l) (key c r))) (product 9 (bit_xor (at m) (key c t)))
    share c i j l m p q r t =
        sums 14 11 13 9 (at i) (at j) (at l) (at m) (key c p) (key c q) (key c r) (key c t) (b.1 i) (b.1 j) (b.1 l) (b.1 m)
        (k (n * 4 + c) p) (k (n * 4 + c) q) (k (n * 4 + c) r) (k (n * 4 + c) t)

    through : block (λ i. bit_xor (get_or (inv_mix_columns s) i 0) (get_or (inv_mix_column (get_or w (n * 4 + i / 4) [])) (i % 4) 0)) ≡ inv_mix_columns (add_round_key w n s)
    unfolding inv_mix_columns add_round_key
    through =
        cons4 (share 0 0 1 2 3 0 1 2 3) (share 0 1 2 3 0 1 2 3 0) (share 0 2 3 0 1 2 3 0 1) (share 0 3 0 1 2 3 0 1 2)
        (cons4 (share 1 4 5 6 7 0 1 2 3) (share 1 5 6 7 4 1 2 3 0) (share 1 6 7 4 5 2 3 0 1) (share 1 7 4 5 6 3 0 1 2)
        (cons4 (share 2 8 9 10 11 0 1 2 3) (share 2 9 10 11 8 1 2 3 0) (share 2 10 11 8 9 2 3 0 1) (share 2 11 8 9 10 3 0 1 2)
        (cons4 (share 3 12 13 14 15 0 1 2 3) (share 3 13 14 15 12 1 2 3 0) (share 3 14 15 12 13 2 3 0 1) (share 3 15 12 13 14 3 0 1 2) refl)))

    unmixed : 0 < n → n < nr → add_round_key dw n (inv_mix_columns s) ≡ inv_mix_columns (add_round_key w n s)
    unfolding add_round_key
    unmixed h l =
        block_same (λ i. bit_xor (get_or (inv_mix_columns s) i 0) (get_or (get_or dw (n * 4 + i / 4) []) (i % 4) 0))
        (λ i. bit_xor (get_or (inv_mix_columns s) i 0) (get_or (inv_mix_column (get_or w (n * 4 + i / 4) [])) (i % 4) 0))
        (λ i g. ap (λ x. bit_xor (get_or (inv_mix_columns s) i 0) (get_or x (i % 4) 0)) (word_inner (n * 4 + i / 4) (omega arith) (omega arith)))
        ∙ through

  abbrev ahead : Bytes → Bytes
  ahead s = inv_sub_bytes (inv_shift_rows s)

  ahead-block : (s : Bytes) → Block s → Block (ahead s)
  ahead-block s b = inv_sub_block (inv_shift_rows s) (inv_shift_block s b)

  rounds_equivalent : (n : ℕ) (s : Bytes) → n < nr → Block s → eq_inv_rounds dw n s ≡ inv_rounds w n (ahead s)
  unfolding eq_inv_rounds inv_rounds
  rounds_equivalent zero s h b = kept_first (inv_shift_rows (inv_sub_bytes s)) ∙ ap (add_round_key w 0) (commuted s)
  rounds_equivalent (suc n) s h b =
      let m : Bytes = inv_mix_columns (add_round_key w (suc n) (ahead s)) in
      let e : add_round_key dw (suc n) (inv_mix_columns (inv_shift_rows (inv_sub_bytes s))) ≡ m =
      ap (λ x. add_round_key dw (suc n) (inv_mix_columns x)) (commuted s) ∙ unmixed (suc n) (ahead s) (ahead-block s b) (omega arith) h in
      ap (eq_inv_rounds dw n) e
      ∙ rounds_equivalent n m (omega arith) (inv_mix_block (add_round_key w (suc n) (ahead s)) (add_block w (suc n) (ahead s) k (ahead-block s b)))

  pub equivalent : (s : Bytes) → 0 < nr → Block s → eq_inv_cipher dw nr s ≡ inv_cipher w nr s
  unfolding eq_inv_cipher inv_cipher
  equivalent s h b =
      ap (eq_inv_rounds dw (nr - 1)) (kept-last s) ∙ rounds_equivalent (nr - 1) (add_round_key w nr s) (omega arith) (add_block w nr s k b)

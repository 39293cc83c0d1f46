-- Cipher and InvCipher undo each other on blocks, under any schedule of bytes.
use Rattle.std.specs.Prelude.{◌≡◌, ℕ, zero, suc, ◌-◌, List}
use Rattle.std.proofs.Math.Path.{ap}
use Rattle.std.proofs.Common.{◌∙◌}
use Rattle.byte_strings.specs.Bytes.{Bytes}
use Rattle.aes.specs.BlockCipher.{Block, Invertible}
use Rattle.aes.specs.Keys.{Words}
use Rattle.aes.specs.State.{sub_bytes, inv_sub_bytes, shift_rows, inv_shift_rows, mix_columns, inv_mix_columns, add_round_key}
use Rattle.aes.specs.Cipher.{rounds, cipher, inv_rounds, inv_cipher, rijndael}
use Rattle.aes.specs.StateLaws.{sub_block, inv_sub_block, shift_block, inv_shift_block, mix_block, inv_mix_block, add_block, sub_undone, inv_sub_undone, shift_undone, inv_shift_undone, mix_columns_undone, inv_mix_columns_undone, add_undone}

module _ (w : List Bytes) (k : Words w) where
  -- a round without mixing, and its inverse
  abbrev last : ℕ → Bytes → Bytes
  last n s = add_round_key w n (shift_rows (sub_bytes s))

  abbrev unlast : ℕ → Bytes → Bytes
  unlast n s = inv_sub_bytes (inv_shift_rows (add_round_key w n s))

  abbrev full : ℕ → Bytes → Bytes
  full n s = add_round_key w n (mix_columns (shift_rows (sub_bytes s)))

  abbrev unfull : ℕ → Bytes → Bytes
  unfull n s = inv_sub_bytes (inv_shift_rows (inv_mix_columns (add_round_key w n s)))

  shifted : (s : Bytes) → Block s → Block (shift_rows (sub_bytes s))
  shifted s b = shift_block (sub_bytes s) (sub_block s b)

  shifted_undone : (s : Bytes) → Block s → inv_sub_bytes (inv_shift_rows (shift_rows (sub_bytes s))) ≡ s
  shifted_undone s b = ap inv_sub_bytes (shift_undone (sub_bytes s) (sub_block s b)) ∙ sub_undone s b

  unshifted : (s : Bytes) → Block s → Block (inv_sub_bytes (inv_shift_rows s))
  unshifted s b = inv_sub_block (inv_shift_rows s) (inv_shift_block s b)

  unshifted_undone : (s : Bytes) → Block s → shift_rows (sub_bytes (inv_sub_bytes (inv_shift_rows s))) ≡ s
  unshifted_undone s b = ap shift_rows (inv_sub_undone (inv_shift_rows s) (inv_shift_block s b)) ∙ inv_shift_undone s b

  last_undone : (n : ℕ) (s : Bytes) → Block s → unlast n (last n s) ≡ s
  last_undone n s b =
      ap (λ x. inv_sub_bytes (inv_shift_rows x)) (add_undone w n (shift_rows (sub_bytes s)) (shifted s b)) ∙ shifted_undone s b

  unlast_undone : (n : ℕ) (s : Bytes) → Block s → last n (unlast n s) ≡ s
  unlast_undone n s b =
      ap (add_round_key w n) (unshifted_undone (add_round_key w n s) (add_block w n s k b)) ∙ add_undone w n s b

  full_block : (n : ℕ) (s : Bytes) → Block s → Block (full n s)
  full_block n s b = add_block w n (mix_columns (shift_rows (sub_bytes s))) k (mix_block (shift_rows (sub_bytes s)) (shifted s b))

  full_undone : (n : ℕ) (s : Bytes) → Block s → unfull n (full n s) ≡ s
  full_undone n s b =
      ap (λ x. inv_sub_bytes (inv_shift_rows (inv_mix_columns x))) (add_undone w n (mix_columns (shift_rows (sub_bytes s))) (mix_block (shift_rows (sub_bytes s)) (shifted s b)))
      ∙ ap (λ x. inv_sub_bytes (inv_shift_rows x)) (mix_columns_undone (shift_rows (sub_bytes s)) (shifted s b)) ∙ shifted_undone s b

  unmixed : (n : ℕ) (s : Bytes) → Block s → Block (inv_mix_columns (add_round_key w n s))
  unmixed n s b = inv_mix_block (add_round_key w n s) (add_block w n s k b)

  unfull-block : (n : ℕ) (s : Bytes) → Block s → Block (unfull n s)
  unfull-block n s b = unshifted (inv_mix_columns (add_round_key w n s)) (unmixed n s b)

  unfull_undone : (n : ℕ) (s : Bytes) → Block s → full n (unfull n s) ≡ s
  unfull_undone n s b =
      ap (λ x. add_round_key w n (mix_columns x)) (unshifted_undone (inv_mix_columns (add_round_key w n s)) (unmixed n s b))
      ∙ ap (add_round_key w n) (inv_mix_columns_undone (add_round_key w n s) (add_block w n s k b)) ∙ add_undone w n s b

  rounds-block : (n : ℕ) (s : Bytes) → Block s → Block (rounds w n s)
  unfolding rounds
  rounds-block zero s b = add_block w 0 s k b
  rounds-block (suc n) s b = full_block (suc n) (rounds w n s) (rounds-block n s b)

  inv_rounds-block : (n : ℕ) (s : Bytes) → Block s → Block (inv_rounds w n s)
  unfolding inv_rounds
  inv_rounds-block zero s b = add_block w 0 s k b
  inv_rounds-block (suc n) s b = inv_rounds-block n (unfull (suc n) s) (unfull-block (suc n) s b)

  rounds_undone : (n : ℕ) (s : Bytes) → Block s → inv_rounds w n (rounds w n s) ≡ s
  unfolding rounds inv_rounds
  rounds_undone zero s b = add_undone w 0 s b
  rounds_undone (suc n) s b = ap (inv_rounds w n) (full_undone (suc n) (rounds w n s) (rounds-block n s b)) ∙ rounds_undone n s b

  inv_rounds_undone : (n : ℕ) (s : Bytes) → Block s → rounds w n (inv_rounds w n s) ≡ s
  unfolding rounds inv_rounds
  inv_rounds_undone zero s b = add_undone w 0 s b
  inv_rounds_undone (suc n) s b =
      ap (full (suc n)) (inv_rounds_undone n (unfull (suc n) s) (unfull-block (suc n) s b)) ∙ unfull_undone (suc n) s b

  cipher_undone : (nr : ℕ) (s : Bytes) → Block s → inv_cipher w nr (cipher w nr s) ≡ s
  unfolding cipher inv_cipher
  cipher_undone nr s b =
      ap (inv_rounds w (nr - 1)) (last_undone nr (rounds w (nr - 1) s) (rounds-block (nr - 1) s b)) ∙ rounds_undone (nr - 1) s b

  inv_cipher_undone : (nr : ℕ) (s : Bytes) → Block s → cipher w nr (inv_cipher w nr s) ≡ s
  unfolding cipher inv_cipher
  inv_cipher_undone nr s b =
      ap (last nr) (inv_rounds_undone (nr - 1) (unlast nr s) (unshifted (add_round_key w nr s) (add_block w nr s k b))) ∙ unlast_undone nr s b

  cipher-block : (nr : ℕ) (s : Bytes) → Block s → Block (cipher w nr s)
  unfolding cipher
  cipher-block nr s b =
      add_block w nr (shift_rows (sub_bytes (rounds w (nr - 1) s))) k (shifted (rounds w (nr - 1) s) (rounds-block (nr - 1) s b))

  inv_cipher-block : (nr : ℕ) (s : Bytes) → Block s → Block (inv_cipher w nr s)
  unfolding inv_cipher
  inv_cipher-block nr s b = inv_rounds-block (nr - 1) (unlast nr s) (unshifted (add_round_key w nr s) (add_block w nr s k b))

  pub rijndael_invertible : (nr : ℕ) → Invertible (rijndael nr w)
  rijndael_invertible nr = record {
    forward_block = cipher-block nr;
    back_block = inv_cipher-block nr;
    undone = cipher_undone nr;
    redone = inv_cipher_undone nr;
  }

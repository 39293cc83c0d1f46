-- One round more of the equivalent inverse cipher, for the loop of the code.
use Rattle.std.proofs.Common.{◌≡◌, ℕ, ◌+◌, ◌-◌, List, refl, ap, ◌∙◌, add-one}
use Rattle.byte_strings.specs.Bytes.{Bytes}
use Rattle.aes.specs.State.{inv_sub_bytes, inv_shift_rows, inv_mix_columns, add_round_key}
use Rattle.aes.specs.Cipher.{eq_inv_rounds, eq_inv_cipher}

pub eq_first : (w : List Bytes) (n : ℕ) (s : Bytes) → eq_inv_rounds w (n - 1) (add_round_key w n s) ≡ eq_inv_cipher w n s
unfolding eq_inv_cipher
eq_first w n s = refl

eq_next : (w : List Bytes) (n : ℕ) (s : Bytes) → eq_inv_rounds w n (add_round_key w (n + 1) (inv_mix_columns (inv_shift_rows (inv_sub_bytes s)))) ≡ eq_inv_rounds w (n + 1) s
unfolding eq_inv_rounds
eq_next w n s = rw (add-one n) refl

pub eq_turn : (w : List Bytes) (n m : ℕ) (s t r : Bytes) → t ≡ add_round_key w (n + 1) (inv_mix_columns (inv_shift_rows (inv_sub_bytes s))) → n + 1 ≡ m
    → eq_inv_rounds w m s ≡ r → eq_inv_rounds w n t ≡ r
eq_turn w n m s t r e f g = ap (eq_inv_rounds w n) e ∙ eq_next w n s ∙ ap (λ k. eq_inv_rounds w k s) f ∙ g

pub eq_last : (w : List Bytes) (s : Bytes) → add_round_key w 0 (inv_shift_rows (inv_sub_bytes s)) ≡ eq_inv_rounds w 0 s
unfolding eq_inv_rounds
eq_last w s = refl

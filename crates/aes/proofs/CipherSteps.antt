-- One round more, for the loop of the code.
use Rattle.std.proofs.Common.{◌≡◌, ℕ, ◌+◌, List, refl, add-one}
use Rattle.byte_strings.specs.Bytes.{Bytes}
use Rattle.aes.specs.State.{sub_bytes, shift_rows, mix_columns, add_round_key}
use Rattle.aes.specs.Cipher.{rounds}

pub first_round : (w : List Bytes) (s : Bytes) → add_round_key w 0 s ≡ rounds w 0 s
unfolding rounds
first_round w s = refl

pub next_round : (w : List Bytes) (n : ℕ) (s : Bytes) → add_round_key w (n + 1) (mix_columns (shift_rows (sub_bytes (rounds w n s)))) ≡ rounds w (n + 1) s
unfolding rounds
next_round w n s = rw (add-one n) refl

-- One round more, up to the last.
use Rattle.std.proofs.Common.{◌≡◌, ◌+◌, ◌-◌, List, ℕ, ap, ◌∙◌, arith, length-drop}
use Rattle.std.proofs.lemmas.List.{length-take}
use Rattle.aes.specs.Cipher.{rounds, cipher}
use Rattle.aes.specs.State.{sub_bytes, shift_rows, mix_columns, add_round_key}
use Rattle.aes.specs.Words.{unpacked}
use Rattle.aes.proofs.CipherSteps.{first_round, next_round}
use Rattle.aes.proofs.RoundKeys.{key_of, middle_key}
use Rattle.aes.proofs.keys.Schedule.encrypt.Goals as goal

pub loop-key-init : goal.loop-key-init
loop-key-init g c =
    let w = c.args.self.now.words in
    c.first_round-state.ensures ∙ key_of w c.as_chunks.result.0.now c.as_chunks.ensures.front 0 c.args.block.now (omega arith) ∙ first_round w c.args.block.now

pub loop-key-preserved : goal.loop-key-preserved
loop-key-preserved g c =
    let w = c.args.self.now.words in
    let i = c.loop-key.key-index in
    c.round-state.ensures
    ∙ middle_key w c.as_chunks.result.0.now c.as_chunks.ensures.front (g.row.ROUNDS - 1) i (mix_columns (shift_rows (sub_bytes (unpacked c.loop-key.state)))) (omega (arith, length-take {A = List ℕ}, length-drop {A = List ℕ})) (omega (arith, length-take {A = List ℕ}, length-drop {A = List ℕ}))
    ∙ ap (λ s. add_round_key w (i + 1) (mix_columns (shift_rows (sub_bytes s)))) c.loop-key.invariant ∙ next_round w i c.args.block.now

pub returns : goal.returns
unfolding cipher
returns g c =
    let w = c.args.self.now.words in
    let e : c.loop-key.key-index ≡ g.row.ROUNDS - 1 = omega (arith, length-take {A = List ℕ}, length-drop {A = List ℕ}) in
    c.last_round.ensures
    ∙ key_of w c.as_chunks.result.0.now c.as_chunks.ensures.front g.row.ROUNDS (shift_rows (sub_bytes (unpacked c.loop-key.state))) (omega arith)
    ∙ ap (λ s. add_round_key w g.row.ROUNDS (shift_rows (sub_bytes s))) (c.loop-key.invariant ∙ ap (λ n. rounds w n c.args.block.now) e)

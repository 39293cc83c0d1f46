-- One round more, down to the last; and the equivalent inverse cipher under the inverse schedule is the inverse cipher.
use Rattle.std.proofs.Common.{◌≡◌, ◌+◌, ◌-◌, ◌*◌, ◌/◌, ◌<◌, length, take, drop, sym, ap, ap₂, ◌∙◌, arith, rules, length-drop}
use Rattle.std.proofs.lemmas.List.{length-take}
use Rattle.aes.specs.Cipher.{eq_inv_rounds, eq_inv_cipher}
use Rattle.aes.specs.State.{inv_sub_bytes, inv_shift_rows, inv_mix_columns}
use Rattle.aes.specs.Words.{unpacked}
use Rattle.aes.proofs.EquivalentLaws.{equivalent, schedule_length}
use Rattle.aes.proofs.EquivalentSteps.{eq_first, eq_turn, eq_last}
use Rattle.aes.proofs.RoundKeys.{key_of, one_less, front_of, last_key}
use Rattle.aes.proofs.keys.Schedule.decrypt.Goals as goal

pub loop-key-init : goal.loop-key-init
loop-key-init g c =
    let w = c.args.self.now.inverse in
    let keys = c.as_chunks.result.0.now in
    let rest = c.into_iter-key-iterator.result.iter.rest.now in
    let e : rest ≡ take (g.row.ROUNDS - 1) (drop 1 keys) = ap (λ r. r.iter.rest.now) c.into_iter-key-iterator.ensures.into_iter_gives ∙ ap (λ i. i.rest.now) c.rev-key-items.ensures.source ∙ c.iter.ensures.rest in
    let n : length rest ≡ g.row.ROUNDS - 1 = omega (arith, ap length e, length-take (g.row.ROUNDS - 1) (drop 1 keys), length-drop 1 keys) in
    record {
      keys = e ∙ ap (λ n. take n (drop 1 keys)) (sym n);
      left = ap₂ (eq_inv_rounds w) n (c.first_round-state.ensures ∙ key_of w keys c.as_chunks.ensures.front g.row.ROUNDS c.args.block.now (omega arith)) ∙ eq_first w g.row.ROUNDS c.args.block.now;
    }

pub loop-key-preserved : goal.loop-key-preserved
loop-key-preserved g c =
    let w = c.args.self.now.inverse in
    let keys = c.as_chunks.result.0.now in
    let rest = c.loop-key.key-iterator.iter.rest.now in
    let front = c.next.new.self.iter.rest.now in
    let p = c.in-Some.ensures.steps in
    let inv = c.loop-key.invariant in
    let s = unpacked c.loop-key.state in
    let l : length rest < length w / 4 = omega (arith, ap length inv.keys, length-take (length rest) (drop 1 keys), length-drop 1 keys) in
    record {
      keys = front_of w keys c.as_chunks.ensures.front rest front c.in-Some.key.now p inv.keys;
      left = eq_turn w (length front) (length rest) s (unpacked c.round-state.result) (eq_inv_cipher w g.row.ROUNDS c.args.block.now)
          (c.round-state.ensures ∙ last_key w keys c.as_chunks.ensures.front rest front c.in-Some.key.now p inv.keys (inv_mix_columns (inv_shift_rows (inv_sub_bytes s))) l)
          (one_less w keys c.as_chunks.ensures.front rest front c.in-Some.key.now p inv.keys) inv.left;
    }

pub returns : goal.returns
returns g c =
    let w = c.args.self.now.inverse in
    let s = unpacked c.loop-key.state in
    let long : length c.args.self.now.words ≡ g.row.ROUNDS * 4 + 4 =
    omega (arith, schedule_length c.args.self.now.words, ap length c.args.self.now.inverted, c.requires.1) in
    c.last_round.ensures ∙ key_of w c.as_chunks.result.0.now c.as_chunks.ensures.front 0 (inv_shift_rows (inv_sub_bytes s)) (omega arith)
    ∙ eq_last w s ∙ sym (ap (λ n. eq_inv_rounds w n s) c.in-None.ensures.steps.0) ∙ c.loop-key.invariant.left
    ∙ ap (λ w. eq_inv_cipher w g.row.ROUNDS c.args.block.now) c.args.self.now.inverted
    ∙ equivalent c.args.self.now.words c.args.self.now.bytes g.row.ROUNDS long c.args.block.now (search rules) (c.told-block, c.fits-block)

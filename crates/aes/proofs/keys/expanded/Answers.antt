-- The key's words; one word of the schedule more, and all of them.
use Rattle.std.proofs.Common.{◌≡◌, ◌-◌, ◌/◌, ◌≤◌, length, take, drop, sym, refl, ap, ◌∙◌, arith, rules, length-append, length-drop, List, ◌++◌, replicate, [], ◌∷◌}
use Rattle.std.proofs.lemmas.List.{take_all, length-replicate}
use Rattle.std.proofs.Math.Seq.{take-append_seam}
use Rattle.std.specs.Simd.{first_chunks}
use Rattle.byte_strings.specs.Bytes.{Bytes}
use Rattle.aes.specs.Keys.{extended, key_words}
use Rattle.aes.proofs.Chunks.{words_are_chunks, length_chunks}
use Rattle.aes.proofs.KeySteps.{extended_none, extended_more}
use Rattle.aes.proofs.keys.expanded.Goals as goal

pub loop-i-init : goal.loop-i-init
loop-i-init g c =
    let front = c.copy_from_slice.new.self in
    let zero : Bytes = 0 ∷ 0 ∷ 0 ∷ 0 ∷ [] in
    let zeros : List Bytes = replicate g.row.N zero in
    let rest : List Bytes = drop c.args.nk zeros in
    let nk : length c.args.key.now / 4 ≡ c.args.nk = omega arith in
    let e : front ≡ first_chunks 4 c.args.nk c.args.key.now = c.copy_from_slice.ensures.after ∙ c.as_chunks.ensures.front ∙ ap (λ n. first_chunks 4 n c.args.key.now) nk in
    let l : length front ≡ c.args.nk = ap length e ∙ length_chunks c.args.nk c.args.key.now in (
      omega (arith, length-append front rest, length-drop c.args.nk zeros, length-replicate g.row.N zero, l, c.requires.1),
      ap (λ n. take n (front ++ rest)) (sym l) ∙ take-append_seam front rest ∙ e ∙ words_are_chunks c.args.nk c.args.key.now (omega arith)
          ∙ extended_none c.args.nk c.args.nk (key_words c.args.nk c.args.key.now) refl,
    )

pub loop-i-preserved : goal.loop-i-preserved
loop-i-preserved g c = (
  search rules,
  extended_more c.args.nk c.loop-i.i c.loop-i.w (key_words c.args.nk c.args.key.now) c.next_word.result (omega arith) (omega arith) (omega arith)
      c.next_word.ensures c.loop-i.invariant.1,
)

pub returns : goal.returns
returns g c =
    let all : length c.loop-i.w ≤ c.loop-i.i = omega arith in
    let at : c.loop-i.i ≡ g.row.N = omega arith in
    sym (take_all c.loop-i.i c.loop-i.w all) ∙ c.loop-i.invariant.1
    ∙ ap (λ n. extended c.args.nk (n - c.args.nk) (key_words c.args.nk c.args.key.now)) at

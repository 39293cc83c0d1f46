-- One round more.
use Rattle.std.proofs.Common.{◌≡◌, refl, ap, ◌∙◌, arith, rules}
use Rattle.rc4.specs.Rc4.{rounds}
use Rattle.rc4.proofs.Tables.{rounds-step}
use Rattle.rc4.proofs.schedule.Goals as goal

pub loop-i-init : goal.loop-i-init
unfolding rounds
loop-i-init c = (search rules, c.ascending-s.ensures, refl)

pub loop-i-preserved : goal.loop-i-preserved
loop-i-preserved c =
    let stepped = rounds-step c.args.key.now c.loop-i.s c.swap.new.self c.loop-i.i c.loop-i.j c.loop-i.invariant.1 c.loop-i.invariant.2 (c.swap.ensures.by_index.3 0) in
    (c.swap.ensures.len ∙ c.loop-i.invariant.0, stepped.0, stepped.1)

pub returns : goal.returns
returns c =
    let done : c.loop-i.i ≡ 256 = omega arith in
    c.loop-i.invariant.1 ∙ ap (λ n. (rounds c.args.key.now n).table) done

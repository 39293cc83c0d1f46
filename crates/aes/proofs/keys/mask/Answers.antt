-- The three cases of the mask.
use Rattle.std.proofs.Common.{◌≡◌, ◌/◌, ◌%◌, ◌<◌, true, false, ◌&&◌, eqb, ltb, get_or, ◌∙◌, arith, rules}
use Rattle.std.proofs.lemmas.Nat.{div_below}
use Rattle.std.proofs.lemmas.Bool.{eq-eqb, ne_eqb}
use Rattle.std.proofs.lemmas.Bool.Decides.{nat_tests}
use Rattle.std.proofs.lemmas.List.FromFn.{fill_by_all}
use Rattle.aes.proofs.KeySteps.{mask_first, mask_subbed, mask-plain}
use Rattle.aes.proofs.keys.mask.Goals as goal
use Rattle.aes.proofs.keys.mask.Goals.{else-nk-gt6-via-then-nk-gt6+else-i-nk-eq4, else-nk-gt6-via-else-nk-gt6}

pub round_constant-requires : goal.round_constant-requires
round_constant-requires c =
    let d : c.args.i / c.args.nk < 11 = div_below c.args.i c.args.nk 11 (omega arith) (omega arith) in omega arith

pub returns-then-i-nk-eq0 : goal.returns-then-i-nk-eq0
returns-then-i-nk-eq0 c =
    rw (c.sub_word.ensures, c.round_constant.ensures) (mask_first c.args.nk c.args.i c.args.before.now (eq-eqb _ 0 c.if-i-nk-eq0.true))

pub returns-then-i-nk-eq4 : goal.returns-then-i-nk-eq4
returns-then-i-nk-eq4 c =
    let h : (ltb 6 c.args.nk && eqb (c.args.i % c.args.nk) 4) ≡ true = grind (arith, nat_tests) in
    c.sub_word-then-i-nk-eq4.ensures ∙ mask_subbed c.args.nk c.args.i c.args.before.now (ne_eqb _ 0 c.if-i-nk-eq0.false) h

pub returns-else-nk-gt6 : goal.returns-else-nk-gt6
returns-else-nk-gt6 c =
    let h : (ltb 6 c.args.nk && eqb (c.args.i % c.args.nk) 4) ≡ false =
    elim c.else-nk-gt6.branch [ else-nk-gt6-via-then-nk-gt6+else-i-nk-eq4 w ↦ grind (arith, nat_tests) | else-nk-gt6-via-else-nk-gt6 w ↦ grind (arith, nat_tests) ] in
    fill_by_all (λ j. get_or c.args.before.now j 0) c.args.before.now 4 0 c.told-before (λ k l. search rules)
    ∙ mask-plain c.args.nk c.args.i c.args.before.now (ne_eqb _ 0 c.if-i-nk-eq0.false) h

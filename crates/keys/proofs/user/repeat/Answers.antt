-- One turn more.
use Rattle.std.proofs.Common.{◌≡◌, ◌-◌, ap, ◌∙◌, arith}
use Rattle.rc4.specs.Rc4.{rc4}
use Rattle.keys.specs.Key.{key_of}
use Rattle.keys.specs.User.{key_xor, repeated}
use Rattle.keys.proofs.Turns.{repeated_more}
use Rattle.keys.proofs.user.repeat.Goals as goal

pub loop-i-init : goal.loop-i-init
unfolding repeated
loop-i-init c = c.encrypted-x.ensures

pub loop-i-preserved : goal.loop-i-preserved
loop-i-preserved c =
    let key = key_of c.args.key.now in
    c.turn-x.ensures
    ∙ ap (rc4 (key_xor c.loop-i.i key)) c.loop-i.invariant
    ∙ repeated_more key c.loop-i.i c.args.digest.now (omega arith)

pub returns : goal.returns
returns c =
    let done : c.loop-i.i - 1 ≡ 19 = omega arith in
    c.loop-i.invariant ∙ ap (λ k. repeated (key_of c.args.key.now) k c.args.digest.now) done

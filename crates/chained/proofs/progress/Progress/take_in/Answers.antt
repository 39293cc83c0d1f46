-- The turns of the loop, from what taking one block does.
use Rattle.std.proofs.Common.{◌≡◌, ◌-◌, length, ap, ◌∙◌, subst, arith, rules}
use Rattle.std.proofs.lemmas.List.{length-drop}
use Rattle.chained.specs.Steps.{arrived, underway, listed}
use Rattle.chained.specs.TakingIn.{FedUpTo, turn_room, turn_again, piece_fed, part_few, left-further}
use Rattle.chained.proofs.progress.Progress.take_in.Goals as goal

pub put_free-count-requires : goal.put_free-count-requires
put_free-count-requires g c =
    let p = g.C.BlockCipher.permutation c.args.cipher.now in
    let piece = c.args.piece.now in
    let l = c.loop-left in
    let s = l.self in
    let t = c.accept-n in
    turn_room p (underway p c.args.self.now) piece c.args.out.now (length piece - length l.left.now) l.count s.filled s.last s.part l.out l.invariant.1 c.requires s.wide s.long s.few
    l.left.now l.invariant.0 t.result.0 t.new.self.filled t.new.self.last t.new.self.part (listed t.result.1)
    t.ensures.count t.ensures.less t.ensures.full

pub loop-left-preserved : goal.loop-left-preserved
loop-left-preserved g c =
    let p = g.C.BlockCipher.permutation c.args.cipher.now in
    let piece = c.args.piece.now in
    let l = c.loop-left in
    let s = l.self in
    let t = c.accept-n in
    let put = c.put_free-count in
    let more = turn_again p (underway p c.args.self.now) piece c.args.out.now (length piece - length l.left.now) l.count s.filled s.last s.part l.out l.invariant.1 c.requires s.wide s.long s.few
    l.left.now l.invariant.0 t.result.0 t.new.self.filled t.new.self.last t.new.self.part (listed t.result.1)
    t.ensures.count t.ensures.less t.ensures.full put.result put.new.out put.ensures.end put.ensures.writes in
    let rest = left-further piece l.left.now t.result.0 l.invariant.0 (omega (arith, t.ensures.count)) (omega (arith, ap length l.invariant.0 ∙ length-drop (length piece - length l.left.now) piece)) in
    (rest.0, subst (λ at. FedUpTo p (underway p c.args.self.now) piece c.args.out.now at put.result t.new.self.last (arrived t.new.self) put.new.out) rest.1 more)

pub returns : goal.returns
returns g c =
    let p = g.C.BlockCipher.permutation c.args.cipher.now in
    let l = c.loop-left in
    let s = l.self in
    let none : length l.left.now ≡ 0 = search rules in
    piece_fed p (underway p c.args.self.now) c.args.piece.now c.args.out.now (length c.args.piece.now - length l.left.now) l.count s.last (arrived s) l.out l.invariant.1 (omega (arith, none)) (part_few s.filled s.part s.few) c.requires

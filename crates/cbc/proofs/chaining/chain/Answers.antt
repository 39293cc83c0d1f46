-- One block more, the last one, and all of them.
use Rattle.std.proofs.Common.{◌≡◌, ℕ, ◌+◌, ◌*◌, ◌/◌, ◌<◌, ◌++◌, length, take, drop, refl, sym, ap, ◌∙◌, arith, rules}
use Rattle.cbc.specs.Pad.{padded}
use Rattle.cbc.specs.Chaining.{chained, encrypted}
use Rattle.cbc.proofs.Parts.{put-long}
use Rattle.cbc.proofs.PaddingLaws.{padded_chunk, padded_last}
use Rattle.cbc.proofs.RoundTrip.{encrypted-length}
use Rattle.cbc.proofs.Walking.{walking_more, walking_all, chained-next, chained_none}
use Rattle.cbc.proofs.chaining.chain.Goals as goal

pub loop-n-preserved : goal.loop-n-preserved
loop-n-preserved g c =
    let f = (g.C.BlockCipher.permutation c.args.cipher.now).forward in
    let m = length c.args.data.now / 16 + 1 in
    let x = padded c.args.data.now in
    let n = c.loop-n.n in
    let made = c.protect_block-before.result in
    let few : n < length c.args.data.now / 16 = omega (arith, c.loop-n-test.true, c.as_chunks.ensures.front_len) in
    walking_more (chained f) m c.args.iv.now x c.args.out.now n c.loop-n.before made c.loop-n.out made c.put.new.out
    (omega (arith, c.requires, few)) (search rules)
    (chained-next f m n c.loop-n.before (drop (n * 16) x) _ made (omega (arith, few)) (padded_chunk c.args.data.now c.as_chunks.result.0.now n _ c.as_chunks.ensures.front few) c.protect_block-before.ensures)
    (put-long (n * 16) 16 (n * 16) c.loop-n.out made c.put.new.out refl (search rules) c.put.ensures) c.loop-n.invariant

pub returns : goal.returns
unfolding encrypted
returns g c =
    let p = g.C.BlockCipher.permutation c.args.cipher.now in
    let m = length c.args.data.now / 16 + 1 in
    let x = padded c.args.data.now in
    let n = c.loop-n.n in
    let made = c.protect_block-last.result in
    let ends : length c.as_chunks.result.0.now ≡ n = omega arith in
    let at : length c.args.data.now / 16 ≡ n = omega (arith, c.as_chunks.ensures.front_len, ends) in
    let long = encrypted-length p (g.met.C.BlockCipher.invertible c.args.cipher.now) c.args.iv.now c.args.data.now (c.told-iv, c.fits-iv) (λ i. (c.type_inv.data i).fits) in
    let last = c.padded_block.ensures ∙ padded_last c.args.data.now c.as_chunks.result.1.now c.as_chunks.ensures.back ∙ ap (λ (k : ℕ). take 16 (drop (k * 16) x)) at in
    let walked = walking_more (chained p.forward) m c.args.iv.now x c.args.out.now n c.loop-n.before made c.loop-n.out made c.put-2.new.out
    (omega (arith, c.requires)) (search rules)
    (chained-next p.forward m n c.loop-n.before (drop (n * 16) x) c.padded_block.result made (omega arith) last c.protect_block-last.ensures)
    (put-long (length c.as_chunks.result.0.now * 16) 16 (n * 16) c.loop-n.out made c.put-2.new.out (ap (λ (k : ℕ). k * 16) ends) (search rules) c.put-2.ensures) c.loop-n.invariant in
    let all = walking_all (chained p.forward) m c.args.iv.now x c.args.out.now
    (n + 1) made c.put-2.new.out (omega arith) (chained_none p.forward made _) walked in
    record {
      long = long;
      writes = all ∙ ap (λ n. encrypted p c.args.iv.now c.args.data.now ++ drop n c.args.out.now) (sym long);
    }

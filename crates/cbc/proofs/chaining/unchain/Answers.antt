-- One block more, and the last one.
use Rattle.std.proofs.Common.{◌≡◌, ◌+◌, ◌-◌, ◌*◌, ◌/◌, ◌++◌, length, take, drop, refl, sym, ap, ◌∙◌, subst, arith, rules}
use Rattle.std.proofs.lemmas.List.{length-take-le}
use Rattle.cbc.specs.Blocks.{xor_blocks}
use Rattle.cbc.specs.Chaining.{unchained}
use Rattle.cbc.proofs.Chunks.{front_chunk, last_chunk}
use Rattle.cbc.proofs.Decrypting.{decrypted_none, decrypted-length, decrypted-written}
use Rattle.cbc.proofs.Parts.{put-long}
use Rattle.cbc.proofs.PaddingLaws.{removed_few}
use Rattle.cbc.proofs.Walking.{Walking, walking_more, unchained-next}
use Rattle.cbc.proofs.chaining.unchain.Goals as goal

pub returns-in_default : goal.returns-in_default
returns-in_default g c =
    let none = decrypted_none (g.C.BlockCipher.permutation c.args.cipher.now) c.args.unpad c.args.iv.now c.args.data.now (search rules) in
    record {
      count = sym (ap length none);
      writes = ap (λ u. u ++ drop (length u) c.args.out.now) (sym none);
    }

pub loop-n-preserved : goal.loop-n-preserved
loop-n-preserved g c =
    let back = (g.C.BlockCipher.permutation c.args.cipher.now).back in
    let y = c.args.data.now in
    let n = c.loop-n.n in
    let before = c.loop-n.before in
    let plain = c.restore_block-plain.result in
    let blocks = c.as_chunks.ensures in
    let ends = c.in-Some.ensures.cases in
    walking_more (unchained back) (length y / 16) c.args.iv.now y c.args.out.now n before _ c.loop-n.out plain c.put.new.out
    (omega (arith, c.requires, c.loop-n-test.true, ends.1, blocks.front_len)) (search rules)
    (unchained-next back (length y / 16) n before (drop (n * 16) y) _ plain (omega (arith, c.loop-n-test.true, ends.1, blocks.front_len))
    (front_chunk y c.as_chunks.result.0.now c.in-Some.front.now c.in-Some.last.now blocks.front blocks.front_len ends n _ c.loop-n-test.true) c.restore_block-plain.ensures)
    (put-long (n * 16) 16 (n * 16) c.loop-n.out plain c.put.new.out refl (search rules) c.put.ensures) c.loop-n.invariant

pub overflow_sub-kept : goal.overflow_sub-kept
overflow_sub-kept g c = omega (arith, c.removed_from-kept.ensures, removed_few c.args.unpad c.restore_block-plain-2.result)

pub returns : goal.returns
returns g c =
    let p = g.C.BlockCipher.permutation c.args.cipher.now in
    let y = c.args.data.now in
    let n = length c.in-Some.front.now in
    let blocks = c.as_chunks.ensures in
    let ends = c.in-Some.ensures.cases in
    let some : length c.args.data.now / 16 ≡ n + 1 = omega (arith, ends.1, blocks.front_len) in
    let n-is : c.loop-n.n ≡ n = omega arith in
    let inv = subst (λ k. Walking (unchained p.back) (length y / 16) c.args.iv.now y c.args.out.now k c.loop-n.before c.loop-n.out) n-is c.loop-n.invariant in
    let last_is = c.restore_block-plain-2.ensures
    ∙ ap (λ u. xor_blocks (p.back u) c.loop-n.before) (last_chunk y c.as_chunks.result.0.now c.in-Some.front.now c.in-Some.last.now blocks.front blocks.front_len ends) in
    let goes = c.removed_from-kept.ensures in
    let plain = c.restore_block-plain-2.result in
    let sixteen : length c.restore_block-plain-2.result ≡ 16 = search rules in
    record {
      count = ap (λ k. n * 16 + (16 - k)) goes
          ∙ decrypted-length p c.args.unpad c.args.iv.now y n c.loop-n.before plain c.args.out.now c.loop-n.out some (omega (arith, c.requires, some)) inv last_is;
      writes = decrypted-written p c.args.unpad c.args.iv.now y n c.loop-n.before plain c.args.out.now c.loop-n.out some (omega (arith, c.requires, some)) inv last_is
          c.put-2.new.out
          (put-long (n * 16) (16 - c.removed_from-kept.result) (n * 16) c.loop-n.out _ c.put-2.new.out refl (length-take-le (16 - c.removed_from-kept.result) plain (omega (arith, sixteen))) c.put-2.ensures
          ∙ ap (λ k. take (n * 16) c.loop-n.out ++ (take (16 - k) plain ++ drop (n * 16 + (16 - k)) c.loop-n.out)) goes);
    }

-- One block more, and what it means for the digest.
use Rattle.std.proofs.Common.{◌≡◌, ◌-◌, ◌%◌, min, length, drop, ap, ◌∙◌, rules}
use Rattle.md5_digest.proofs.Feeding.{block_more, digests}
use Rattle.md5_digest.proofs.Md5.absorb.Goals as goal

pub loop-block-preserved : goal.loop-block-preserved
loop-block-preserved c =
    let rest : c.split_at.result.1.now ≡ drop (min ((64 - c.args.self.now.count % 64) % 64) (length c.args.piece.now)) c.args.piece.now = c.split_at.ensures.back ∙ ap (λ k. drop k c.args.piece.now) c.min.ensures in
    block_more c.args.self.now c.args.piece.now c.loop-block.self c.take_block.new.self _ c.split_at.result.1.now c.as_chunks.result.0.now c.loop-block.block-index
    rest c.as_chunks.ensures.front c.loop-block-test.true c.as_chunks.ensures.front_len c.loop-block.invariant c.take_block.ensures.absorbs c.take_block.ensures.counts

pub returns-clause-digests : goal.returns-clause-digests
returns-clause-digests c =
    digests c.args.self.now c.hold-2.new.self c.args.piece.now (search rules) (search rules)

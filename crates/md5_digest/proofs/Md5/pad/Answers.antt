-- The fill and the length are the padding, and complete a block.
use Rattle.std.proofs.Common.{◌≡◌, ◌-◌, ◌*◌, ◌%◌, ◌^◌, ◌<◌, ◌≤◌, length, take, ap, ◌∙◌, inl, inr, arith}
use Rattle.md5_digest.specs.Md5.{low_bytes}
use Rattle.md5_digest.proofs.Padding.{low_bytes_8}
use Rattle.md5_digest.proofs.Finish.{Fills, filler, padding_part, length_part, finished, whole-blocks}
use Rattle.md5_digest.proofs.Md5.pad.Goals as goal
use Rattle.md5_digest.proofs.Md5.pad.Goals.{then-at-lt56, else-at-lt56}

range : (c : goal.After-absorb-2) → (0 < c.if-at-lt56.fill) × (c.if-at-lt56.fill ≤ 64)
range c = elim c.if-at-lt56.branch [ then-at-lt56 w ↦ (omega (arith, w.fill-is), omega (arith, w.fill-is)) | else-at-lt56 w ↦ (omega (arith, w.fill-is), omega (arith, w.fill-is)) ]

fills : (c : goal.After-absorb-2) → Fills c.args.self.now.count c.if-at-lt56.fill
fills c = elim c.if-at-lt56.branch [ then-at-lt56 w ↦ inl (omega (arith, w.fill-is)) | else-at-lt56 w ↦ inr (omega (arith, w.fill-is)) ]

long : (c : goal.After-absorb-2) → c.to_le_bytes.result ≡ low_bytes 8 ((c.args.self.now.count * 8) % 2 ^ 64)
long c = c.to_le_bytes.ensures ∙ low_bytes_8 ((c.args.self.now.count * 8) % 2 ^ 64)

pub returns : goal.returns
returns c =
    let m = c.args.self.now in
    let fill = c.if-at-lt56.fill in
    let front = take (fill - 0) filler in
    let bits = c.to_le_bytes.result in
    finished m c.absorb.new.self c.absorb-2.new.self front bits
    (padding_part m.count fill (range c) (fills c) bits (long c)) c.absorb.ensures.absorbs c.absorb-2.ensures.absorbs
    (whole-blocks m.count c.absorb.new.self.count c.absorb-2.new.self.count fill (length front) (length bits) (fills c)
    (length_part fill (range c)) (ap length (long c)) c.absorb.ensures.counts c.absorb-2.ensures.counts)

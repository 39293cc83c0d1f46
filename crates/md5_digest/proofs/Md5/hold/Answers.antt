-- A part that completes the block, and one that does not.
use Rattle.std.proofs.Common.{◌≡◌, ◌+◌, ◌-◌, ◌%◌, ◌^◌, ◌++◌, length, take, refl, ap, ◌∙◌, rules, arith}
use borrow.Rule.Slice.PartMut.{put_mid}
use Rattle.md5_digest.specs.Md5.{absorbed, compressed}
use Rattle.md5_digest.specs.Stream.{absorbing}
use Rattle.md5_digest.proofs.Blocks.{part_held, part_absorbed}
use Rattle.md5_digest.proofs.Md5.hold.Goals as goal

pub returns-then-end-eq64-clause-absorbs : goal.returns-then-end-eq64-clause-absorbs
unfolding absorbing
returns-then-end-eq64-clause-absorbs c more =
    let m = c.args.self.now in
    let part = c.args.part.now in
    let k = length c.args.part.now in
    let len : length c.args.self.now.buffer ≡ 64 = search rules in
    let filled = put_mid (m.count % 64) (m.count % 64 + k - m.count % 64) m.buffer in
    ap (λ h. absorbed h (take ((m.count + k) % 2 ^ 64 % 64) (filled c.copy_from_slice.new.self) ++ more)) c.compress-self.ensures
    ∙ ap (λ xs. absorbed (compressed m.chain (filled xs)) (take ((m.count + k) % 2 ^ 64 % 64) (filled xs) ++ more)) c.copy_from_slice.ensures.after
    ∙ part_absorbed m.chain m.buffer part more m.count k len refl c.if-end-eq64.true

pub returns-else-end-eq64-clause-absorbs : goal.returns-else-end-eq64-clause-absorbs
unfolding absorbing
returns-else-end-eq64-clause-absorbs c more =
    let m = c.args.self.now in
    let part = c.args.part.now in
    let k = length c.args.part.now in
    let len : length c.args.self.now.buffer ≡ 64 = search rules in
    let filled = put_mid (m.count % 64) (m.count % 64 + k - m.count % 64) m.buffer in
    ap (λ xs. absorbed m.chain (take ((m.count + k) % 2 ^ 64 % 64) (filled xs) ++ more)) c.copy_from_slice.ensures.after
    ∙ part_held m.chain m.buffer part more m.count k len refl (omega (arith, c.requires, c.if-end-eq64.false))

-- A whole block in front of the rest.
use Rattle.std.proofs.Common.{◌≡◌, ◌+◌, ◌%◌, ◌^◌, ◌++◌, length, take, refl, ap, ◌∙◌, rules}
use Rattle.md5_digest.specs.Md5.{absorbed}
use Rattle.md5_digest.specs.Stream.{absorbing}
use Rattle.md5_digest.proofs.Blocks.{block-absorbed}
use Rattle.md5_digest.proofs.Md5.take_block.Goals as goal

pub returns : goal.returns
unfolding absorbing
returns c =
    let m = c.args.self.now in
    let whole : length c.args.block.now ≡ 64 = search rules in
    record {
      absorbs = λ more.
          ap (λ h. absorbed h (take ((m.count + 64) % 2 ^ 64 % 64) m.buffer ++ more)) c.compress-self.ensures
          ∙ block-absorbed m.chain m.buffer c.args.block.now more m.count c.requires whole;
      counts = refl;
    }

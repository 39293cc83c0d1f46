-- Each byte of the array is XORed, so each byte of the key is.
use Rattle.std.proofs.Common.{◌≡◌, map, length, take, sym, ap, ◌∙◌, rules}
use lib.Bits.{bit_xor}
use Rattle.std.proofs.lemmas.List.{take-map}
use Rattle.md5_digest.proofs.Mapped.{mapped}
use Rattle.keys.proofs.user.xored.Goals as goal

pub returns : goal.returns
returns c =
    let xs = c.args.key.now.bytes in
    let len : length c.args.key.now.bytes ≡ 16 = search rules in
    let all : c.map.result ≡ map (λ b. bit_xor b c.args.i) c.args.key.now.bytes = mapped _ (λ b. bit_xor b c.args.i) _ (λ x y q k. (search rules, search rules)) xs _ 16 (sym len) c.map.ensures.items in
    ap (take c.args.key.now.size.n) all ∙ take-map (λ b. bit_xor b c.args.i) c.args.key.now.size.n xs

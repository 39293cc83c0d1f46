-- The bytes of the four registers, joined.
use Rattle.std.proofs.Common.{◌≡◌, ◌/◌, ◌%◌, ◌∷◌, [], refl, ap, ◌∙◌, rules}
use Rattle.std.specs.List.{flat_map}
use Rattle.md5_digest.specs.Md5.{low_bytes, digest}
use Rattle.md5_digest.proofs.Mapped.{mapped}
use Rattle.md5_digest.proofs.Padding.{low_bytes_4}
use Rattle.md5_digest.proofs.ArrayU816FromRegisters.from.Goals as goal

pub returns : goal.returns
unfolding digest
returns c =
    let h = c.args.h in
    let words =
    mapped _ (low_bytes 4) _ (λ x y q k.
    let bytes : y ≡ x % 256 ∷ x / 256 % 256 ∷ x / 65536 % 256 ∷ x / 16777216 % 256 ∷ [] = search rules in
    (bytes ∙ low_bytes_4 x, search rules)) (h.a ∷ (h.b ∷ (h.c ∷ (h.d ∷ [])))) _ 4 refl c.map-words.ensures.items in
    c.copy_from_slice.ensures.after ∙ c.as_flattened.ensures.value ∙ ap (flat_map (λ xs. xs)) words

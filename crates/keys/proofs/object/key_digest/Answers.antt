-- The digest of Algorithm 1, from its parts.
use Rattle.std.proofs.Common.{◌≡◌, ◌+◌, min, ◌++◌, length, take, ℤ, ap, ◌∙◌, ap₂, w32, to_z, of_z, rules}
use Rattle.md5_digest.specs.Md5.{md5}
use Rattle.keys.specs.Object.{object_bytes, salt, object_key}
use Rattle.keys.proofs.object.key_digest.Goals as goal

pub returns : goal.returns
unfolding object_key
returns c =
    let key = c.args.key.now in
    let object : to_z w32 (of_z w32 c.args.object) ≡ c.args.object = search rules in
    let generation : to_z w32 (of_z w32 c.args.generation) ≡ c.args.generation = search rules in
    let five = c.object_bytes.ensures ∙ ap₂ (λ (o g : ℤ). object_bytes o g) object generation in
    ap (take (min 16 (length key + 5))) (c.digest.ensures ∙ ap (λ xs. md5 (key ++ (xs ++ salt c.args.salted))) five)

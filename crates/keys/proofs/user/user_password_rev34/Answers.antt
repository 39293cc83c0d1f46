-- Algorithm 5, from its parts.
use Rattle.std.proofs.Common.{◌≡◌, ◌++◌, ap, ◌∙◌, rules}
use Rattle.byte_strings.specs.Bytes.{zeros}
use Rattle.md5_digest.specs.Md5.{md5}
use Rattle.keys.specs.Key.{key_of}
use Rattle.keys.specs.Password.{password_padding}
use Rattle.keys.specs.User.{repeated, user_password34}
use Rattle.keys.proofs.user.user_password_rev34.Goals as goal

pub returns : goal.returns
unfolding user_password34
returns c =
    let key = key_of c.args.key.now in
    let hash : c.finish.result ≡ md5 (password_padding ++ c.args.id.now) = search rules in
    let long : c.zero_filled.result ≡ c.repeat.result ++ zeros 16 = search rules in
    long ∙ ap (λ x. x ++ zeros 16) (c.repeat.ensures ∙ ap (repeated key 19) hash)

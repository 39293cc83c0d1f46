-- Algorithm 4, from its parts.
use Rattle.std.proofs.Common.{ap, ◌∙◌}
use Rattle.rc4.specs.Rc4.{rc4}
use Rattle.keys.specs.Key.{key_of}
use Rattle.keys.specs.User.{user_password2}
use Rattle.keys.proofs.user.user_password_rev2.Goals as goal

pub returns : goal.returns
unfolding user_password2
returns c = c.encrypted.ensures ∙ ap (rc4 (key_of c.args.key.now)) c.password_padding.ensures

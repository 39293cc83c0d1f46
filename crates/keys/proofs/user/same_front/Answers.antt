-- The front of U is all of it where it is shorter.
use Rattle.std.proofs.Common.{◌≡◌, length, take, ap, ◌∙◌, rules}
use Rattle.std.specs.Str.{bytes_eq}
use Rattle.keys.proofs.Pads.{bytes_eq_flip}
use Rattle.keys.proofs.user.same_front.Goals as goal

pub returns : goal.returns
returns c =
    let own = take 16 c.args.own.now in
    let len : length (take 16 c.args.own.now) ≡ 16 = search rules in
    let front : c.starts_with.result ≡ bytes_eq (take 16 c.args.own.now) (take 16 c.args.u.now) = c.starts_with.ensures.value ∙ ap (λ n. bytes_eq own (take n c.args.u.now)) len in
    front ∙ bytes_eq_flip own (take 16 c.args.u.now)

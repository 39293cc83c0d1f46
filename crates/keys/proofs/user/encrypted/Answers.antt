-- The buffer is as long as the input, so it is the cipher's output.
use Rattle.std.proofs.Common.{ap, ◌∙◌, rules}
use Rattle.rc4.specs.Rc4.{rc4, stream}
use Rattle.keys.proofs.Turns.{encrypted}
use Rattle.keys.proofs.user.encrypted.Goals as goal

pub returns : goal.returns
returns g c =
    encrypted c.in-Some.rc c.encrypt.new.self c.args.input.now _ c.encrypt.new.out c.encrypt.result (search rules) c.encrypt.ensures
    ∙ ap (λ s. stream s c.args.input.now) c.in-Some.ensures.1
    ∙ ap (λ k. rc4 k c.args.input.now) c.as_bytes.ensures.value

-- What the cipher makes of the bytes is a feeding of them.
use Rattle.std.proofs.Common.{sym, ◌∙◌, subst}
use Rattle.rc4.specs.Rc4.{Applied}
use Rattle.rc4.proofs.Streams.{length-stream}
use Rattle.methods.proofs.Feedings.{streamed}
use Rattle.methods.proofs.rc4_method.stream_into.Goals as goal

pub returns : goal.returns
returns c =
    let is = subst (λ o. Applied c.args.cipher.now c.args.bytes.now c.args.out.now c.decrypt.new.self c.decrypt.new.out o) c.unwrap.ensures c.decrypt.ensures in
    let count = is.1 ∙ sym (length-stream c.args.cipher.now c.args.bytes.now) in
    record {
      count = count;
      writes = is.3;
      fed = streamed c.args.cipher.now c.decrypt.new.self c.args.bytes.now c.args.out.now c.decrypt.new.out c.unwrap.result is.2 count is.3;
    }

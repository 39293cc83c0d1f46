-- The state is that after the rounds so far.
use Rattle.std.proofs.Common.{◌≡◌}
use Rattle.aes.specs.Cipher.{rounds}
use Rattle.aes.specs.Words.{unpacked}
use Rattle.aes.proofs.keys.Schedule.encrypt.Given as goal

abbrev pub invariant-loop-key : goal.invariant-loop-key
invariant-loop-key g l = unpacked l.state ≡ rounds l.self.words l.key-index l.block

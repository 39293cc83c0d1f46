-- The part that is done, and then what the state makes of the rest, is the whole stream.
use Rattle.std.proofs.Common.{◌≡◌, ◌++◌, take, drop}
use Rattle.rc4.specs.Rc4.{stream, after}
use Rattle.rc4.proofs.Rc4.apply.Given as goal

abbrev pub invariant-loop-byte : goal.invariant-loop-byte
invariant-loop-byte l =
    (take l.byte-index l.bytes ++ stream l.self (drop l.byte-index l.bytes) ≡ stream l.initial.self l.initial.bytes)
    × (after l.self (drop l.byte-index l.bytes) ≡ after l.initial.self l.initial.bytes)

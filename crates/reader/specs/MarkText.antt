-- How a mark is written.
use Rattle.std.specs.Prelude.{codes}
use Rattle.byte_strings.specs.Bytes.{Bytes}
use Rattle.reader.specs.declared.output.Mark.{Mark}
use Rattle.reader.specs.declared.output.Mark.TheVariants.{Restored, Passed}

abbrev pub mark_text : Mark → Bytes
mark_text Restored = codes "restored"
mark_text Passed = codes "passed"

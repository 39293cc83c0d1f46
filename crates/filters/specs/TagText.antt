-- How a tag is written.
use Rattle.std.specs.Prelude.{codes}
use Rattle.byte_strings.specs.Bytes.{Bytes}
use Rattle.filters.specs.declared.tag.Tag.{Tag}
use Rattle.filters.specs.declared.tag.Tag.TheVariants.{None, V2, AESV2, AESV3}

abbrev pub tag_text : Tag → Bytes
tag_text None = codes "None"
tag_text V2 = codes "V2"
tag_text AESV2 = codes "AESV2"
tag_text AESV3 = codes "AESV3"

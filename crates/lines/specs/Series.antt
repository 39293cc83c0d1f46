-- What the two shipped series know.
use Rattle.std.specs.Prelude.{Option}
use Rattle.byte_strings.specs.Bytes.{Bytes}
use Rattle.filters.specs.declared.tag.Tag.{Tag}
use Rattle.filters.specs.Tag.{standard_tag}
use Rattle.filters.specs.Series.{first_tag}
use Rattle.lines.specs.declared.series.Shipped.{Shipped}
use Rattle.lines.specs.declared.series.Shipped.TheVariants.{First, Second}

abbrev pub shipped_tag : Shipped → Bytes → Option Tag
shipped_tag First t = first_tag t
shipped_tag Second t = standard_tag t

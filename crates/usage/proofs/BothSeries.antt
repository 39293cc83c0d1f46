-- The second series knows every text that the first knows.
use Rattle.std.proofs.Common.{Some, None, Option, ap}
use Rattle.filters.specs.declared.tag.Tag.{Tag}
use Rattle.filters.specs.Series.{Knows, early, first_tag}
use Rattle.filters.specs.Tag.{standard_tag}

pub second_knows : Knows first_tag standard_tag
second_knows t knows none =
    let of : Option Tag → Option Tag = λ a. elim a [ Some g ↦ early g | None ↦ None ] in
    knows (ap of none)

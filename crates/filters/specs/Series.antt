-- Series: their law, when one knows more than another, and what the first knows.
use Rattle.std.specs.Prelude.{◌≡◌, ◌⊎◌, Some, None as Nothing, Option, ◌≢◌}
use Rattle.byte_strings.specs.Bytes.{Bytes}
use Rattle.filters.specs.declared.tag.Tag.{Tag}
use Rattle.filters.specs.declared.tag.Tag.TheVariants.{None, V2, AESV2, AESV3}
use Rattle.filters.specs.Tag.{standard_tag}

-- a series answers no tag, or the one that the text has by the standard
abbrev pub Named : (Bytes → Option Tag) → Type 0
Named series = (t : Bytes) → (series t ≡ Nothing) ⊎ (series t ≡ standard_tag t)

-- the larger series knows every text that the smaller knows
abbrev pub Knows : (Bytes → Option Tag) → (Bytes → Option Tag) → Type 0
Knows small large = (t : Bytes) → (small t ≢ Nothing) → large t ≢ Nothing

-- a tag of a file that was opened in the smaller series: that of the larger, or unresolved
abbrev pub Below : Option Tag → Option Tag → Type 0
Below s t = (s ≡ t) ⊎ (s ≡ Nothing)

-- a tag that is known before AES
abbrev pub early : Tag → Option Tag
early None = Some None
early V2 = Some V2
early AESV2 = Nothing
early AESV3 = Nothing

-- the first series knows `None`, `Identity` and `V2`
abbrev pub first_tag : Bytes → Option Tag
first_tag t = elim (standard_tag t) [ Some g ↦ early g | Nothing ↦ Nothing ]

-- The tag of each method text.
use Rattle.std.specs.Prelude.{cond, Some, None as Nothing, codes, Option}
use Rattle.std.specs.Str.{bytes_eq}
use Rattle.byte_strings.specs.Bytes.{Bytes}
use Rattle.filters.specs.declared.tag.Tag.{Tag}
use Rattle.filters.specs.declared.tag.Tag.TheVariants.{None, V2, AESV2, AESV3}

-- `None` and `Identity` mean no encryption, the other three texts are their own tags, and no other text has one
abbrev pub standard_tag : Bytes → Option Tag
standard_tag t =
    cond (bytes_eq t (codes "None")) (Some None)
    (cond (bytes_eq t (codes "Identity")) (Some None)
    (cond (bytes_eq t (codes "V2")) (Some V2)
    (cond (bytes_eq t (codes "AESV2")) (Some AESV2)
    (cond (bytes_eq t (codes "AESV3")) (Some AESV3) Nothing))))

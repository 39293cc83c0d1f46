-- What an absent field means.
use Rattle.std.specs.Prelude.{Bool, true, Option}
use Rattle.std.specs.Option.{unwrap_or}

-- EncryptMetadata: absent means yes
abbrev pub or_yes : Option Bool → Bool
or_yes b = unwrap_or b true

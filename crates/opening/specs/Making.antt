-- The file that the checks and a key leave.
use Rattle.std.specs.Prelude.{ℕ, ◌-◌, ◌++◌}
use Rattle.byte_strings.specs.Bytes.{Bytes, zeros}
use Rattle.opening.specs.declared.checks.Version.{Version}
use Rattle.opening.specs.declared.checks.Version.TheVariants.{V1, V2, V4}
use Rattle.opening.specs.declared.checks.Head.{Head}
use Rattle.opening.specs.File.{Opened}

-- a key of n bytes, which under V 4 is filled with zeros to 16
abbrev pub filled : Version → ℕ → Bytes → Bytes
filled V1 n key = key
filled V2 n key = key
filled V4 n key = key ++ zeros (16 - n)

-- the file of a key of n bytes
abbrev pub new_file : Head → ℕ → Bytes → Opened
new_file h n key = record { key = filled h.version n key; tags = h.tags }

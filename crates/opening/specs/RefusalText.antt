-- How fields, layers and refusals are written.
use Rattle.std.specs.Prelude.{codes}
use Rattle.byte_strings.specs.Bytes.{Bytes}
use Rattle.opening.specs.declared.refusal.Field.{Field}
use Rattle.opening.specs.declared.refusal.Field.TheVariants as field
use Rattle.opening.specs.declared.refusal.Layer.{Layer}
use Rattle.opening.specs.declared.refusal.Layer.TheVariants as layer
use Rattle.opening.specs.declared.refusal.Refusal.{Refusal}
use Rattle.opening.specs.declared.refusal.Refusal.TheVariants as refusal

abbrev pub field_text : Field → Bytes
field_text field.Filter = codes "Filter"
field_text field.V = codes "V"
field_text field.R = codes "R"
field_text field.StmF = codes "StmF"
field_text field.StrF = codes "StrF"
field_text field.O = codes "O"
field_text field.U = codes "U"
field_text field.P = codes "P"

abbrev pub layer_text : Layer → Bytes
layer_text layer.File = codes "file"
layer_text layer.Object = codes "object"
layer_text layer.Method = codes "method"

-- the case's name, without its value
abbrev pub refusal_text : Refusal → Bytes
refusal_text refusal.WorkSpace = codes "WorkSpace"
refusal_text (refusal.Missing _) = codes "Missing"
refusal_text refusal.NotStandard = codes "NotStandard"
refusal_text refusal.OtherV = codes "OtherV"
refusal_text (refusal.BadTable _) = codes "BadTable"
refusal_text refusal.ShortLength = codes "ShortLength"
refusal_text refusal.LateR = codes "LateR"
refusal_text refusal.LongLength = codes "LongLength"
refusal_text refusal.EarlyR = codes "EarlyR"
refusal_text refusal.USpace = codes "USpace"
refusal_text refusal.WrongPassword = codes "WrongPassword"
refusal_text refusal.Unresolved = codes "Unresolved"
refusal_text refusal.KeyLength = codes "KeyLength"
refusal_text refusal.Closed = codes "Closed"
refusal_text refusal.NoSpace = codes "NoSpace"
refusal_text refusal.TooShort = codes "TooShort"

-- What an opened file holds.
use Rattle.std.specs.Prelude.{Ok, Err, Option, Result}
use Rattle.byte_strings.specs.Bytes.{Bytes}
use Rattle.filters.specs.declared.tag.Tag.{Tag}
use Rattle.keys.specs.Key.{key_of}
use Rattle.opening.specs.declared.file.File.{File}
use Rattle.opening.specs.declared.file.Tags.{Tags}
use Rattle.opening.specs.declared.file.Target.{Target}
use Rattle.opening.specs.declared.file.Target.TheVariants.{String, Stream}
use Rattle.opening.specs.declared.refusal.Refusal.{Refusal}

-- the file key, and the tag of each target
pub record Opened : Type 0 where
  pub key : Bytes
  pub tags : Tags

-- what the code's file holds
abbrev pub viewed : File → Opened
viewed f = record { key = key_of f.key; tags = f.tags }

-- the tag of a target
abbrev pub tag_for : Tags → Target → Option Tag
tag_for t String = t.string
tag_for t Stream = t.stream

-- a call's answer, with what the file holds
abbrev pub read_file : Result File Refusal → Result Opened Refusal
read_file (Ok f) = Ok (viewed f)
read_file (Err e) = Err e

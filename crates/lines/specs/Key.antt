-- The names of the pairs, as they stand in a line.
use Rattle.std.specs.Prelude.{codes}
use Rattle.byte_strings.specs.Bytes.{Bytes}
use Rattle.lines.specs.declared.key.Key.{Key}
use Rattle.lines.specs.declared.key.Key.TheVariants as key

abbrev pub name_of : Key → Bytes
name_of key.Filter = codes "filter"
name_of key.V = codes "v"
name_of key.R = codes "r"
name_of key.Length = codes "length"
name_of key.P = codes "p"
name_of key.O = codes "o"
name_of key.U = codes "u"
name_of key.Em = codes "em"
name_of key.Id = codes "id"
name_of key.Pw = codes "pw"
name_of key.Cfb = codes "cfb"
name_of key.Cfe = codes "cfe"
name_of key.StmF = codes "stmf"
name_of key.StrF = codes "strf"
name_of key.Series = codes "series"
name_of key.Work = codes "work"
name_of key.Ubuf = codes "ubuf"
name_of key.Obj = codes "obj"
name_of key.Gen = codes "gen"
name_of key.Target = codes "target"
name_of key.Data = codes "data"
name_of key.Iv = codes "iv"
name_of key.Space = codes "space"
name_of key.Method = codes "method"
name_of key.Calls = codes "calls"
name_of key.Key = codes "key"
name_of key.Block = codes "block"
name_of key.Unpad = codes "unpad"
name_of key.Name = codes "name"
name_of key.Run = codes "run"
name_of key.Len = codes "len"

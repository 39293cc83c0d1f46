-- The keys of files and objects are bytes.
use Rattle.std.proofs.Common.{ℕ, zero, suc, ◌+◌, ◌-◌, ◌/◌, min, Bool, true, false, ◌++◌, length, take, ℤ, Option, sym, subst, arith, lit<}
use Rattle.byte_strings.specs.Bytes.{Bytes, Octets, zeros}
use Rattle.cbc.proofs.Parts.{take_bytes, append_bytes, replicate_bytes}
use Rattle.md5_digest.specs.declared.Registers.{Registers}
use Rattle.md5_digest.specs.Md5.{low_bytes, absorbed, initial, padding, digest, digested, md5}
use Rattle.keys.specs.Password.{padded}
use Rattle.keys.specs.File.{Basis, again, hashed, turns, file_key}
use Rattle.keys.specs.Object.{object_bytes, salt, object_key}
use Rattle.filters.specs.declared.tag.Tag.{Tag}
use Rattle.methods.specs.declared.key_kind.KeyKind.{KeyKind}
use Rattle.methods.specs.declared.key_kind.KeyKind.TheVariants as kind
use Rattle.opening.specs.declared.checks.Version.{Version}
use Rattle.opening.specs.declared.checks.Version.TheVariants.{V1, V2, V4}
use Rattle.opening.specs.declared.fields.Fields.{Fields}
use Rattle.opening.specs.Checks.{key_length}
use Rattle.opening.specs.Making.{filled}
use Rattle.opening.specs.Laws.{Sets, basis, key_by}
use Rattle.opening.specs.SetUp.{Made}
use Rattle.reader.specs.declared.object.Object.{Object}
use Rattle.reader.specs.Key.{key_for}

Octets-low_bytes : (k n : ℕ) → Octets (low_bytes k n)
Octets-low_bytes zero n i = lit< tt
Octets-low_bytes (suc k) n zero = omega arith
Octets-low_bytes (suc k) n (suc i) = Octets-low_bytes k (n / 256) i

digest_bytes : (h : Registers) → Octets (digest h)
unfolding digest
digest_bytes h =
    let d = low_bytes 4 h.d in
    let c = low_bytes 4 h.c ++ d in
    let b = low_bytes 4 h.b ++ c in
    append_bytes (low_bytes 4 h.a) b (Octets-low_bytes 4 h.a)
    (append_bytes (low_bytes 4 h.b) c (Octets-low_bytes 4 h.b)
    (append_bytes (low_bytes 4 h.c) d (Octets-low_bytes 4 h.c) (Octets-low_bytes 4 h.d)))

md5_bytes : (x : Bytes) → Octets (md5 x)
unfolding digested
md5_bytes x = digest_bytes (absorbed initial (x ++ padding (length x)))

again_bytes : (n k : ℕ) (x : Bytes) → Octets x → Octets (again n k x)
unfolding again
again_bytes n zero x h = h
again_bytes n (suc k) x h = md5_bytes (take n (again n k x))

file_key_bytes : (b : Basis) (password : Bytes) → Octets (file_key b password)
unfolding file_key
file_key_bytes b password =
    take_bytes b.n (again b.n (turns b.revision) (md5 (hashed b password))) (again_bytes b.n (turns b.revision) (md5 (hashed b password)) (md5_bytes (hashed b password)))

filled_bytes : (v : Version) (n : ℕ) (key : Bytes) → Octets key → Octets (filled v n key)
filled_bytes V1 n key h = h
filled_bytes V2 n key h = h
filled_bytes V4 n key h = append_bytes key (zeros (16 - n)) h (replicate_bytes (16 - n) 0 (lit< tt))

object_key_bytes : (key : Bytes) (object generation : ℤ) (salted : Bool) → Octets (object_key key object generation salted)
unfolding object_key
object_key_bytes key object generation salted =
    let digested = key ++ (object_bytes object generation ++ salt salted) in
    take_bytes (min 16 (length key + 5)) (md5 digested) (md5_bytes digested)

-- the key of a file that was set up
pub set_bytes : (series : Bytes → Option Tag) (f : Fields) (password : Bytes) (m : Made) → Sets series f password m → Octets m.file.key
set_bytes series f password m s =
    subst (λ x. Octets x.key) (sym s.file) (filled_bytes s.fit.version (key_length s.fit.version f.length) (key_by series f s.fit password) (file_key_bytes (basis series f s.fit) (padded password)))

-- the key that a method takes
pub key_bytes : (k : KeyKind) (key : Bytes) (o : Object) → Octets key → Octets (key_for k key o)
key_bytes kind.File key o h = h
key_bytes kind.Object key o h = object_key_bytes key o.number o.generation false
key_bytes kind.Salted key o h = object_key_bytes key o.number o.generation true

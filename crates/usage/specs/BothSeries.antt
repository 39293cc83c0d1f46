-- The promise on two series, at the two that are shipped.
use Rattle.std.specs.Prelude.{length, Result}
use Rattle.byte_strings.specs.Bytes.{Bytes, zeros}
use Rattle.filters.specs.Series.{first_tag}
use Rattle.filters.specs.Tag.{standard_tag}
use Rattle.methods.specs.Method.{Scheme}
use Rattle.opening.specs.declared.fields.Fields.{Fields}
use Rattle.opening.specs.declared.file.File.{File}
use Rattle.opening.specs.declared.refusal.Refusal.{Refusal}
use Rattle.opening.specs.Open.{Opens}
use Rattle.promises.specs.Promises.{Enough, OpensAs}
use Rattle.usage.specs.declared.both_series.Both.{Both}

-- with space enough, what the first series answers agrees with what the second answers
unfoldable pub Agree : {M : Type 0} → (M → Scheme) → Result File Refusal → Result File Refusal → Type 0
Agree scheme r s = Enough r → Enough s → OpensAs scheme r s

-- the two series agree, whatever the fields and the password
abbrev pub OpensMore : {M : Type 0} → (M → Scheme) → Type 0
OpensMore scheme =
    (f : Fields) (password x_work x_after y_work y_after : Bytes) (r s : Result File Refusal) →
    Opens first_tag f password x_work r x_after → Opens standard_tag f password y_work s y_after →
    Agree scheme r s

-- both openings, of which the second has the work area that the first left, and their agreement
pub record OpenedTwice {M : Type 0} (scheme : M → Scheme) (f : Fields) (password work : Bytes) (b : Both) (after : Bytes) : Type 0 where
  pub first : Opens first_tag f password work b.first (zeros (length work))
  pub second : Opens standard_tag f password (zeros (length work)) b.second after
  pub agree : Agree scheme b.first b.second

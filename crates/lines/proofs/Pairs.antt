-- A word that begins with a name, and has `=` behind it, is a pair of that name.
use Rattle.std.proofs.Common.{◌≡◌, ℕ, true, ◌∷◌, ◌++◌, length, sym, ap, ◌∙◌, ap₂}
use Rattle.std.proofs.lemmas.List.{take-append-drop}
use Rattle.std.proofs.lemmas.Slice.Eq.{bytes_eq-Decides}
use Rattle.std.specs.List.{IsSplitAt}
use Rattle.std.specs.Str.{bytes_eq}
use Rattle.byte_strings.specs.Bytes.{Bytes}

pub pair_of : (word name front behind v : Bytes) (first : ℕ) → IsSplitAt word (length name) front behind → bytes_eq front name ≡ true → first ≡ 61 → behind ≡ first ∷ v → word ≡ name ++ (61 ∷ v)
pair_of word name front behind v first split same mark is =
    sym (take-append-drop (length name) word) ∙ ap₂ ◌++◌ (sym split.1 ∙ (bytes_eq-Decides front name).0 same) (sym split.2 ∙ is ∙ ap (λ b. b ∷ v) mark)

-- What stands before the window that is found, it itself, and what stands behind it are the line.
use Rattle.std.proofs.Common.{◌≡◌, ℕ, ◌+◌, ◌-◌, true, ◌++◌, length, take, drop, codes, sym, ap, ◌∙◌, ap₂, take-append-drop, rules}
use Rattle.std.specs.Str.{bytes_eq}
use Rattle.std.proofs.lemmas.Slice.Eq.{bytes_eq-Decides}
use Rattle.std.proofs.lemmas.List.{take_rest, drop-drop}
use Rattle.byte_strings.specs.Bytes.{Bytes}
use Rattle.lines.proofs.cases.parted.Goals as goal

same_is : (xs ys : Bytes) → true ≡ bytes_eq xs ys → xs ≡ ys
same_is xs ys e = let d = bytes_eq-Decides xs ys in search rules

parted : (line mid : Bytes) (i : ℕ) → take 4 (drop i line) ≡ mid →
    line ≡ take i line ++ (mid ++ take (length line - (i + 4)) (drop (i + 4) line))
parted line mid i e =
    let rest = sym (take-append-drop 4 (drop i line)) in
    let behind : drop 4 (drop i line) ≡ take (length line - (i + 4)) (drop (i + 4) line) = drop-drop 4 i line ∙ sym (take_rest line (i + 4)) in
    sym (take-append-drop i line) ∙ ap (λ t. take i line ++ t) (rest ∙ ap₂ ◌++◌ e behind)

pub returns : goal.returns
returns c =
    let found : take 4 (drop c.in_ok-i.i c.args.line.now) ≡ codes " => " = search (rules, same_is) in
    parted c.args.line.now (codes " => ") c.in_ok-i.i found

-- One step in taking a piece: its first k bytes, as a whole, and what is left.
use Rattle.std.proofs.Common.{◌≡◌, ℕ, ◌+◌, ◌*◌, ◌/◌, ◌%◌, ◌^◌, ◌<◌, ◌≤◌, List, [], ◌++◌, length, get_or, take, drop, sym, ap, ◌∙◌, subst, append_assoc, add_assoc, arith, length-append, length-drop, take-append-drop}
use Rattle.std.proofs.lemmas.List.{drop-drop}
use Rattle.std.specs.Simd.{first_chunks}
use Rattle.md5_digest.specs.declared.Md5.{Md5}
use Rattle.md5_digest.specs.Md5.{digest, padding}
use Rattle.md5_digest.specs.Stream.{absorbing, digest_after}
use Rattle.md5_digest.proofs.Blocks.{chunk_at}
use Rattle.md5_digest.proofs.Padding.{padding_mod}

-- what is left is to the state as the whole piece was to the first state
abbrev pub Left : Md5 → List ℕ → Md5 → List ℕ → Type 0
Left start piece m left =
    ((more : List ℕ) → absorbing m (left ++ more) ≡ absorbing start (piece ++ more))
    × ((m.count + length left) % 2 ^ 64 ≡ (start.count + length piece) % 2 ^ 64)

-- no byte of an open block is held while there is more
abbrev pub Opens : Md5 → List ℕ → Type 0
Opens m left = 0 < length left → m.count % 64 ≡ 0

module _ (start : Md5) (piece : List ℕ) (m : Md5) (left : List ℕ) where
  pub left_more : (m' : Md5) (part : List ℕ) (k : ℕ) → Left start piece m left → part ≡ take k left → k ≤ length left →
      ((more : List ℕ) → absorbing m' more ≡ absorbing m (part ++ more)) → m'.count ≡ (m.count + k) % 2 ^ 64 →
      Left start piece m' (drop k left)
  left_more m' part k inv parts within step counts = (
    (λ more.
        step (drop k left ++ more)
        ∙ ap (λ xs. absorbing m (xs ++ (drop k left ++ more))) parts
        ∙ ap (absorbing m) (sym (append_assoc (take k left) (drop k left) more))
        ∙ ap (λ xs. absorbing m (xs ++ more)) (take-append-drop k left)
        ∙ inv.0 more),
    omega (arith, inv.1, counts, length-drop k left),
  )

-- block i of what is left
pub block_more : (start : Md5) (piece : List ℕ) (m m' : Md5) (left rest : List ℕ) (chunks : List (List ℕ)) (i : ℕ) →
    rest ≡ left → chunks ≡ first_chunks 64 (length rest / 64) rest → i < length chunks → length chunks ≡ length rest / 64 →
    Left start piece m (drop (i * 64) left) × Opens m (drop (i * 64) left) →
    ((more : List ℕ) → absorbing m' more ≡ absorbing m (get_or chunks i [] ++ more)) → m'.count ≡ (m.count + 64) % 2 ^ 64 →
    Left start piece m' (drop ((i + 1) * 64) left) × Opens m' (drop ((i + 1) * 64) left)
block_more start piece m m' left rest chunks i same front lt count inv step counts =
    let within : i < length rest / 64 = omega arith in
    let block : get_or chunks i [] ≡ take 64 (drop (i * 64) left) = ap (λ xs. get_or xs i []) front ∙ chunk_at 64 rest [] (length rest / 64) i within ∙ ap (λ xs. take 64 (drop (i * 64) xs)) same in
    let long : length rest ≡ length left = ap length same in
    let enough : 64 ≤ length (drop (i * 64) left) = simp length-drop (omega arith) in
    let turn : Left start piece m' (drop 64 (drop (i * 64) left)) = left_more start piece m (drop (i * 64) left) m' (get_or chunks i []) 64 inv.0 block enough step counts in
    let next : drop 64 (drop (i * 64) left) ≡ drop ((i + 1) * 64) left = drop-drop 64 (i * 64) left ∙ ap (λ j. drop j left) (omega arith) in
    let opens : Opens m' (drop ((i + 1) * 64) left) = λ h. omega (arith, inv.1 (omega arith), counts) in
    (subst (Left start piece m') next turn, opens)

-- the digest after a piece, from what the state has absorbed of it and how far it counts
pub digests : (m after : Md5) (p : List ℕ) →
    ((more : List ℕ) → absorbing after more ≡ absorbing m (p ++ more)) →
    after.count ≡ (m.count + length p) % 2 ^ 64 →
    (rest : List ℕ) → digest_after after rest ≡ digest_after m (p ++ rest)
unfolding digest_after
digests m after p absorbs counts rest =
    let pad : padding (after.count + length rest) ≡ padding (m.count + length (p ++ rest)) =
    ap (λ n. padding (n + length rest)) counts
    ∙ padding_mod (m.count + length p) (length rest)
    ∙ ap padding (add_assoc m.count (length p) (length rest) ∙ ap (λ n. m.count + n) (sym (length-append p rest))) in
    ap digest (
    ap (λ ps. absorbing after (rest ++ ps)) pad
    ∙ absorbs (rest ++ padding (m.count + length (p ++ rest)))
    ∙ ap (absorbing m) (sym (append_assoc p rest (padding (m.count + length (p ++ rest))))))

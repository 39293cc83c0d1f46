-- Chunks of four: their elements, and a key's words as chunks of the key.
use Rattle.std.proofs.Common.{◌≡◌, ℕ, zero, suc, ◌+◌, ◌*◌, ◌<◌, ◌≤◌, List, [], length, get_or, drop, sym, refl, ap, ◌∙◌, zero-add, arith, length-drop}
use Rattle.std.specs.Simd.{first_chunks}
use Rattle.std.proofs.lemmas.List.{get_or-take, get_or-drop, length-take-le}
use Rattle.std.proofs.lemmas.List.FromFn.{fill_by_all}
use Rattle.byte_strings.specs.Bytes.{Bytes}
use Rattle.aes.specs.Keys.{word, key_words}

pub length_chunks : {X : Type 0} (k : ℕ) (w : List X) → length (first_chunks 4 k w) ≡ k
length_chunks zero w = refl
length_chunks (suc k) w = ap suc (length_chunks k (drop 4 w))

-- element c of chunk n
pub chunk_at : {X : Type 0} (d : X) (w : List X) (k n c : ℕ) → n < k → c < 4 → get_or (get_or (first_chunks 4 k w) n []) c d ≡ get_or w (n * 4 + c) d
chunk_at d w zero n c h l = absurd (omega arith)
chunk_at d w (suc k) zero c h l = get_or-take 4 w c d l ∙ ap (λ i. get_or w i d) (sym (zero-add c))
chunk_at d w (suc k) (suc n) c h l =
    let e : 4 + (n * 4 + c) ≡ suc n * 4 + c = omega arith in
    chunk_at d (drop 4 w) k n c (omega arith) l ∙ get_or-drop 4 w (n * 4 + c) d ∙ ap (λ i. get_or w i d) e

length_chunk : {X : Type 0} (w : List X) (k n : ℕ) → k * 4 ≤ length w → n < k → length (get_or (first_chunks 4 k w) n []) ≡ 4
length_chunk w zero n h l = absurd (omega arith)
length_chunk w (suc k) zero h l = length-take-le 4 w (omega arith)
length_chunk w (suc k) (suc n) h l = length_chunk (drop 4 w) k n (omega (arith, length-drop 4 w)) (omega arith)

pub words_are_chunks : (k : ℕ) (key : Bytes) → k * 4 ≤ length key → first_chunks 4 k key ≡ key_words k key
words_are_chunks k key h =
    fill_by_all (λ i. word (λ j. get_or key (i * 4 + j) 0)) (first_chunks 4 k key) k [] (length_chunks k key)
    (λ i l. fill_by_all (λ j. get_or key (i * 4 + j) 0) (get_or (first_chunks 4 k key) i []) 4 0 (length_chunk key k i h l) (λ j m. chunk_at 0 key k i j l m))

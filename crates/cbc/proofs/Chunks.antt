-- The complete blocks of a byte string, as a list.
use Rattle.std.proofs.Common.{◌≡◌, ℕ, zero, suc, ◌*◌, ◌/◌, ◌<◌, List, [], ◌∷◌, length, get_or, take, drop, refl, sym, ap, ◌∙◌, arith}
use Rattle.std.proofs.lemmas.List.{drop-drop, get_or_append_left, get_or-append_right}
use Rattle.std.specs.List.{IsLastAndRest}
use Rattle.std.specs.Simd.{first_chunks}
use Rattle.byte_strings.specs.Bytes.{Bytes}

pub chunk_at : (k n : ℕ) (x : Bytes) (d : Bytes) → n < k → get_or (first_chunks 16 k x) n d ≡ take 16 (drop (n * 16) x)
chunk_at zero n x d h = absurd (omega arith)
chunk_at (suc k) zero x d h = refl
chunk_at (suc k) (suc n) x d h =
    chunk_at k n (drop 16 x) d (omega arith) ∙ ap (take 16) (drop-drop (n * 16) 16 x ∙ ap (λ (m : ℕ). drop m x) (omega arith))

-- the blocks before the last one, and the last one
module _ (y : Bytes) (blocks front : List Bytes) (last : Bytes) (are : blocks ≡ first_chunks 16 (length y / 16) y) (long : length blocks ≡ length y / 16) (ends : IsLastAndRest blocks last front) where
  pub front_chunk : (n : ℕ) (d : Bytes) → n < length front → get_or front n d ≡ take 16 (drop (n * 16) y)
  front_chunk n d h =
      sym (get_or_append_left front (last ∷ []) d n h) ∙ ap (λ (l : List Bytes). get_or l n d) (sym ends.0 ∙ are) ∙ chunk_at (length y / 16) n y d (omega (arith, long, ends.1))

  pub last_chunk : last ≡ take 16 (drop (length front * 16) y)
  last_chunk =
      sym (get_or-append_right front (last ∷ []) (length front) (length front) last refl (omega arith) ∙ ap (λ (k : ℕ). get_or (last ∷ []) k last) {y = 0} (omega arith))
      ∙ ap (λ (l : List Bytes). get_or l (length front) last) (sym ends.0 ∙ are) ∙ chunk_at (length y / 16) (length front) y last (omega (arith, long, ends.1))

-- Four words of a state, each with its word of the round key added.
use Rattle.std.proofs.Common.{◌≡◌, ℕ, ◌+◌, ◌*◌, ◌<◌, Bool, true, false, List, [], ◌∷◌, ◌++◌, get_or, refl, ap₂, ◌∙◌, lit<}
use Rattle.byte_strings.specs.Bytes.{Bytes}
use Rattle.std.specs.Simd.{first_chunks}
use Rattle.aes.proofs.Chunks.{chunk_at}
use Rattle.aes.specs.State.{sub_bytes, inv_sub_bytes, shift_rows, inv_shift_rows, mix_columns, inv_mix_columns, add_round_key}
use Rattle.aes.specs.Words.{added, mixed}
use Rattle.aes.specs.Direction.{substituted, shifted, columns_mixed, columns, column_mixed, column_substituted}

abbrev pub joins : Bytes → Bytes → Bytes → Bytes → Bytes
joins a b c d = a ++ (b ++ (c ++ d))

pub same_joins : {a b c d p q r t : Bytes} → a ≡ p → b ≡ q → c ≡ r → d ≡ t → joins a b c d ≡ joins p q r t
same_joins e f g h = ap₂ ◌++◌ e (ap₂ ◌++◌ f (ap₂ ◌++◌ g h))

-- the elements of four lists of four
abbrev pub sixteen : Bytes → Bytes → Bytes → Bytes → Bytes
sixteen a b c d =
    get_or a 0 0 ∷ get_or a 1 0 ∷ get_or a 2 0 ∷ get_or a 3 0 ∷ get_or b 0 0 ∷ get_or b 1 0 ∷ get_or b 2 0 ∷ get_or b 3 0
    ∷ get_or c 0 0 ∷ get_or c 1 0 ∷ get_or c 2 0 ∷ get_or c 3 0 ∷ get_or d 0 0 ∷ get_or d 1 0 ∷ get_or d 2 0 ∷ get_or d 3 0 ∷ []

same_sixteen : {a b c d p q r t : Bytes} → a ≡ p → b ≡ q → c ≡ r → d ≡ t → sixteen a b c d ≡ sixteen p q r t
same_sixteen {p = p} e f g h = rw (e, f, g, h) refl

-- the steps of a round on a state u, column by column
module _ (key : List Bytes) (u : Bytes) where
  abbrev at : Bool → ℕ → Bytes
  at inverse i = get_or (columns (shifted inverse u)) i []

  pub mixed_words : (inverse : Bool) {a b c d : Bytes} → a ≡ column_mixed inverse (at inverse 0) (get_or key 0 []) → b ≡ column_mixed inverse (at inverse 1) (get_or key 1 [])
      → c ≡ column_mixed inverse (at inverse 2) (get_or key 2 []) → d ≡ column_mixed inverse (at inverse 3) (get_or key 3 [])
      → joins a b c d ≡ add_round_key key 0 (columns_mixed inverse (shifted inverse (substituted inverse u)))
  unfolding mixed added add_round_key mix_columns inv_mix_columns shift_rows inv_shift_rows sub_bytes inv_sub_bytes
  mixed_words false = same_joins
  mixed_words true = same_joins

  pub last_words : (inverse : Bool) {a b c d : Bytes} → a ≡ column_substituted inverse (at inverse 0) (get_or key 0 []) → b ≡ column_substituted inverse (at inverse 1) (get_or key 1 [])
      → c ≡ column_substituted inverse (at inverse 2) (get_or key 2 []) → d ≡ column_substituted inverse (at inverse 3) (get_or key 3 [])
      → sixteen a b c d ≡ add_round_key key 0 (shifted inverse (substituted inverse u))
  unfolding added add_round_key shift_rows inv_shift_rows sub_bytes inv_sub_bytes
  last_words false = same_sixteen
  last_words true = same_sixteen

  -- the columns as chunks of the block
  abbrev plain : ℕ → Bytes
  plain i = let c : Bytes = get_or (first_chunks 4 4 u) i [] in added (get_or c 0 0) (get_or c 1 0) (get_or c 2 0) (get_or c 3 0) (get_or key i [])

  plain_is : (i : ℕ) → i < 4 → plain i ≡ added (get_or u (i * 4 + 0) 0) (get_or u (i * 4 + 1) 0) (get_or u (i * 4 + 2) 0) (get_or u (i * 4 + 3) 0) (get_or key i [])
  plain_is i h =
      let at : (j : ℕ) → j < 4 → get_or (get_or (first_chunks 4 4 u) i []) j 0 ≡ get_or u (i * 4 + j) 0 = λ j l. chunk_at 0 u 4 i j h l in
      ap₂ (λ (x : ℕ × ℕ) (y : ℕ × ℕ). added x.0 x.1 y.0 y.1 (get_or key i [])) (ap₂ (λ a b. (a, b)) (at 0 (lit< tt)) (at 1 (lit< tt))) (ap₂ (λ a b. (a, b)) (at 2 (lit< tt)) (at 3 (lit< tt)))

  pub first_words : {a b c d : Bytes} → a ≡ plain 0 → b ≡ plain 1 → c ≡ plain 2 → d ≡ plain 3 → joins a b c d ≡ add_round_key key 0 u
  unfolding added add_round_key
  first_words e f g h = same_joins (e ∙ plain_is 0 (lit< tt)) (f ∙ plain_is 1 (lit< tt)) (g ∙ plain_is 2 (lit< tt)) (h ∙ plain_is 3 (lit< tt))

-- Worked examples of the definitions: what each computes, and what it is to be.
use Rattle.std.specs.Prelude.{◌≡◌, ℕ, ◌+◌, ◌-◌, List, [], ◌∷◌, ◌++◌, map, replicate, pos, negsuc, Some}
use Rattle.byte_strings.specs.Bytes.{zeros}
use Rattle.cbc.specs.Pad.{padding_of}
use Rattle.filters.specs.declared.tag.Tag.TheVariants.{AESV2}
use Rattle.keys.specs.Numbers.{low_bytes_of}
use Rattle.keys.specs.Object.{object_bytes}
use Rattle.keys.specs.Password.{password_padding, padded}
use Rattle.opening.specs.declared.checks.Version.TheVariants.{V2}
use Rattle.opening.specs.Checks.{key_length}
use Rattle.reader.specs.Tag.{scheme_for}

-- numbers that a definition computes, and what they are to be
pub record Example : Type 0 where
  pub computed : List ℕ
  pub expected : List ℕ

-- each computes what it is to be
unfoldable pub Hold : List Example → Type 0
Hold [] = Unit {0}
Hold (e ∷ es) = (e.computed ≡ e.expected) × Hold es

-- what each piece of these lengths hands out, behind n bytes
abbrev pub handed_out : (ℕ → ℕ) → ℕ → List ℕ → List ℕ
handed_out hands n [] = []
handed_out hands n (m ∷ ms) = (hands (n + m) - hands n) ∷ handed_out hands (n + m) ms

abbrev pub examples : List Example
examples =
    -- the empty password and the padding itself pad alike
    record { computed = padded []; expected = padded password_padding } ∷
    -- P −4 and 4,294,967,292
    record { computed = low_bytes_of 4 (negsuc 3) ++ low_bytes_of 4 (pos 4294967292); expected = 0xFC ∷ 0xFF ∷ 0xFF ∷ 0xFF ∷ 0xFC ∷ 0xFF ∷ 0xFF ∷ 0xFF ∷ [] } ∷
    -- object 16,777,226, generation 0
    record { computed = object_bytes (pos 16777226) (pos 0); expected = 0x0A ∷ 0 ∷ 0 ∷ 0 ∷ 0 ∷ [] } ∷
    -- object −1, generation 65,536
    record { computed = object_bytes (negsuc 0) (pos 65536); expected = 0xFF ∷ 0xFF ∷ 0xFF ∷ 0 ∷ 0 ∷ [] } ∷
    -- Lengths 8, 47 and 135
    record { computed = map (λ bits. key_length V2 (Some bits)) (8 ∷ 47 ∷ 135 ∷ []); expected = 1 ∷ 5 ∷ 16 ∷ [] } ∷
    -- AESV2 stores 0, 15 and 16 bytes
    record { computed = map (scheme_for (Some AESV2)).size (0 ∷ 15 ∷ 16 ∷ []); expected = 32 ∷ 32 ∷ 48 ∷ [] } ∷
    -- its pieces of 16, 16, 16 and 5 bytes, under any key
    record { computed = handed_out ((scheme_for (Some AESV2)).restoring []).hands 0 (16 ∷ 16 ∷ 16 ∷ 5 ∷ []); expected = 0 ∷ 0 ∷ 16 ∷ 0 ∷ [] } ∷
    -- blocks that end in 02 03 03, in 00 and in 11, and sixteen 10: how many bytes go
    record { computed = padding_of (zeros 13 ++ (2 ∷ 3 ∷ 3 ∷ [])) ∷ padding_of (zeros 16) ∷ padding_of (zeros 15 ++ (0x11 ∷ [])) ∷ padding_of (replicate 16 0x10) ∷ []; expected = 0 ∷ 0 ∷ 0 ∷ 16 ∷ [] } ∷ []

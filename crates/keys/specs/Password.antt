-- Passwords: Algorithm 2, step (a).
use Rattle.std.specs.Prelude.{◌≡◌, ℕ, ◌<◌, ◌≤◌, [], ◌∷◌, ◌++◌, length, take, Some, None, Option}
use Rattle.byte_strings.specs.Bytes.{Bytes, Writes}

-- the 32 bytes that fill a short password
unfoldable pub password_padding : Bytes
password_padding =
    0x28 ∷ 0xBF ∷ 0x4E ∷ 0x5E ∷ 0x4E ∷ 0x75 ∷ 0x8A ∷ 0x41 ∷ 0x64 ∷ 0x00 ∷ 0x4E ∷ 0x56 ∷ 0xFF ∷ 0xFA ∷ 0x01 ∷ 0x08 ∷
    0x2E ∷ 0x2E ∷ 0x00 ∷ 0xB6 ∷ 0xD0 ∷ 0x68 ∷ 0x3E ∷ 0x80 ∷ 0x2F ∷ 0x0C ∷ 0xA9 ∷ 0xFE ∷ 0x64 ∷ 0x53 ∷ 0x69 ∷ 0x7A ∷ []

-- the password, cut to 32 bytes or filled from the start of the padding
unfoldable pub padded : Bytes → Bytes
padded password = take 32 (password ++ password_padding)

-- what writing the padded password to an area answers and leaves
abbrev pub Padded : Bytes → Bytes → Option ℕ → Bytes → Type 0
Padded password old None new = (length old < 32) × (new ≡ old)
Padded password old (Some n) new = (32 ≤ length old) × (n ≡ 32) × Writes (padded password) old new

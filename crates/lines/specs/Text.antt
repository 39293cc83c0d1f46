-- Hexadecimal digits.
use Rattle.std.specs.Prelude.{ℕ, ◌+◌, ◌-◌, cond, ◌&&◌, Some, None, Option, nat_le}

-- the value of a lower-case hexadecimal digit: 48 is `0`, 97 is `a`
abbrev pub hex_digit : ℕ → Option ℕ
hex_digit b = cond (nat_le 48 b && nat_le b 57) (Some (b - 48)) (cond (nat_le 97 b && nat_le b 102) (Some (b - 97 + 10)) None)

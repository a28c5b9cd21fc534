-- Hexadecimal digits.
use Rattle.std.specs.Prelude.{ℕ, Bool, ◌||◌, ◌&&◌, nat_le}

-- a digit of 0-9a-f
abbrev pub is_lower_digit : ℕ → Bool
is_lower_digit c = (nat_le 48 c && nat_le c 57) || (nat_le 97 c && nat_le c 102)

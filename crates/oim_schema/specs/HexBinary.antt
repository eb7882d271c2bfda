-- Binary texts (XML Schema Part 2, second edition, section 3.2.15): each octet is two hexadecimal
-- digits.
use Rattle.std.specs.Prelude.{ℕ, ◌⊎◌, ◌&&◌, ◌||◌, Bool, true, false, List, [], ◌∷◌}
use Rattle.std.specs.Int.{IsInRange, is_in_range}

-- `0` to `9`, `A` to `F` or `a` to `f`.
abbrev pub IsHexDigit : ℕ → Type 0
IsHexDigit c = IsInRange 48 57 c ⊎ (IsInRange 65 70 c ⊎ IsInRange 97 102 c)

pub data IsHexBinary : List ℕ → Type 0 where
  none : IsHexBinary []
  octet : (high low : ℕ) (others : List ℕ) → IsHexDigit high → IsHexDigit low → IsHexBinary others → IsHexBinary (high ∷ low ∷ others)

-- The same as tests.
abbrev pub is_hex_digit : ℕ → Bool
is_hex_digit c = is_in_range 48 57 c || is_in_range 65 70 c || is_in_range 97 102 c

abbrev pub are_octets : List ℕ → Bool
are_octets [] = true
are_octets (high ∷ []) = false
are_octets (high ∷ low ∷ others) = is_hex_digit high && is_hex_digit low && are_octets others

unfoldable pub is_hex_binary : List ℕ → Bool
is_hex_binary text = are_octets text

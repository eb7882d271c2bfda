-- Numerals of the three kinds (XML Schema Part 2, second edition: the lexical forms of integer,
-- decimal and double without `INF` and `NaN`), and the text of a number's accuracy (Open
-- Information Model 1.0, decimals). Each grammar is given as a relation and as a test.
use Rattle.std.specs.Prelude.{◌≡◌, ◌⊎◌, ◌+◌, ◌<◌, ◌==◌, ◌&&◌, ◌||◌, nat_lt, if◌then◌else◌, ℕ, ℤ, pos, negsuc, Bool, false, List, [], ◌∷◌, ◌++◌, codes, Option, None, Some, length}
use Rattle.std.specs.Prelude.{FitsSigned}
use Rattle.std.specs.Int.{w32}
use Rattle.std.specs.Option.{option_map}
use Rattle.std.specs.Str.{all_ascii_digits}
use Rattle.std.specs.Str.Parse.{IsNumeral, AllDigits, without_leading_sign, signed_digits_value}
use Rattle.oim_cells.specs.declared.cells.Accuracy.{Accuracy}
use Rattle.oim_cells.specs.declared.cells.Accuracy.TheVariants.{Infinite, Places}
use Rattle.oim_cells.specs.declared.cells.NumberKind.{NumberKind}
use Rattle.oim_cells.specs.declared.cells.NumberKind.TheVariants.{Integer, Decimal, Double}

-- An optional sign and one or more digits.
abbrev pub IsInteger : List ℕ → Type 0
IsInteger s = IsNumeral 10 (without_leading_sign s)

-- Digits around one point, at least one of them.
pub data IsPointed : List ℕ → Type 0 where
  pointed : (before after : List ℕ) → AllDigits 10 before → AllDigits 10 after → 0 < length before + length after → IsPointed (before ++ codes "." ++ after)

-- An optional sign, then digits with at most one point.
abbrev pub IsDecimal : List ℕ → Type 0
IsDecimal s = IsInteger s ⊎ IsPointed (without_leading_sign s)

-- A decimal, and optionally a power of ten.
pub data IsDouble : List ℕ → Type 0 where
  no_power : (s : List ℕ) → IsDecimal s → IsDouble s
  power : (front mark back : List ℕ) → IsDecimal front → (mark ≡ codes "e") ⊎ (mark ≡ codes "E") → IsInteger back → IsDouble (front ++ mark ++ back)

-- A numeral of a kind.
abbrev pub IsNumeralOf : NumberKind → List ℕ → Type 0
IsNumeralOf Integer = IsInteger
IsNumeralOf Decimal = IsDecimal
IsNumeralOf Double = IsDouble

-- A text of decimals: `INF`, or an integer that fits a signed number of 32 bits.
pub data IsDecimals : List ℕ → Accuracy → Type 0 where
  infinite : IsDecimals (codes "INF") Infinite
  places : (s : List ℕ) → IsInteger s → FitsSigned w32 (signed_digits_value 10 s) → IsDecimals s (Places (signed_digits_value 10 s))

-- A text without blanks at its ends: a numeral, `d` and a text of decimals, or only a numeral.
pub data IsSplit : NumberKind → List ℕ → List ℕ → Option Accuracy → Type 0 where
  suffixed : (kind : NumberKind) (numeral decimals : List ℕ) (accuracy : Accuracy) → IsNumeralOf kind numeral → IsDecimals decimals accuracy
      → IsSplit kind (numeral ++ codes "d" ++ decimals) numeral (Some accuracy)
  bare : (kind : NumberKind) (numeral : List ℕ) → IsNumeralOf kind numeral → IsSplit kind numeral numeral None

-- No text can be split in two ways.
abbrev pub IsSplitOnce : NumberKind → List ℕ → Type 0
IsSplitOnce kind s = (v w : List ℕ) (a b : Option Accuracy) → IsSplit kind s v a → IsSplit kind s w b → (v ≡ w) × (a ≡ b)

-- The same grammars as tests. First, one or more digits.
abbrev pub is_digits : List ℕ → Bool
is_digits s = nat_lt 0 (length s) && all_ascii_digits s

abbrev pub is_integer_text : List ℕ → Bool
is_integer_text s = is_digits (without_leading_sign s)

-- The text without its first point.
abbrev pub without_point : List ℕ → List ℕ
without_point [] = []
without_point (c ∷ cs) = if c == 46 then cs else c ∷ without_point cs

abbrev pub is_decimal_text : List ℕ → Bool
is_decimal_text s = is_digits (without_point (without_leading_sign s))

-- The text before the first mark, and the text after it.
abbrev pub parts_at : ℕ → List ℕ → Option (List ℕ × List ℕ)
parts_at mark [] = None
parts_at mark (c ∷ cs) = if c == mark then Some ([], cs) else option_map (λ p. (c ∷ p.0, p.1)) (parts_at mark cs)

-- A decimal before the mark, and an integer after it.
abbrev pub is_power_in : Option (List ℕ × List ℕ) → Bool
is_power_in None = false
is_power_in (Some p) = is_decimal_text p.0 && is_integer_text p.1

abbrev pub is_double_text : List ℕ → Bool
is_double_text s = is_decimal_text s || is_power_in (parts_at 101 s) || is_power_in (parts_at 69 s)

abbrev pub is_numeral_text : NumberKind → List ℕ → Bool
is_numeral_text Integer = is_integer_text
is_numeral_text Decimal = is_decimal_text
is_numeral_text Double = is_double_text

-- The number fits a signed number of 32 bits.
abbrev pub is_in_places : ℤ → Bool
is_in_places (pos n) = nat_lt n 2_147_483_648
is_in_places (negsuc n) = nat_lt n 2_147_483_648

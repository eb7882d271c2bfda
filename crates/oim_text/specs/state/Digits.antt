-- The parts of a numeral.
use Rattle.std.specs.Prelude.{◌≡◌, ℕ, Bool, true, false, not, ◌||◌, ◌==◌, nat_lt, List, [], ◌∷◌, ◌++◌, codes}
use Rattle.std.specs.Char.{digit_value}
use Rattle.std.specs.Str.Parse.{AllDigits}
use Rattle.oim_cells.specs.Numeral.{IsDecimal, IsInteger}
use Rattle.oim_cells.specs.declared.cells.NumberKind.{NumberKind}
use Rattle.oim_cells.specs.declared.cells.NumberKind.TheVariants.{Integer, Decimal, Double}

-- Digits with one point among them.
pub record IsPointed (s : List ℕ) : Type 0 where
  pub before : List ℕ
  pub after : List ℕ
  pub whole : s ≡ before ++ codes "." ++ after
  pub before_digits : AllDigits 10 before
  pub after_digits : AllDigits 10 after

-- Digits, with one point among them if the Bool is true.
abbrev pub IsUnsigned : Bool → List ℕ → Type 0
IsUnsigned true = IsPointed
IsUnsigned false = AllDigits 10

-- The text begins with `-` or `+`.
abbrev pub begins_with_sign : List ℕ → Bool
begins_with_sign [] = false
begins_with_sign (c ∷ cs) = (c == 45) || (c == 43)

-- A numeral of the kind may have a point.
abbrev pub takes_point : NumberKind → Bool
takes_point Integer = false
takes_point Decimal = true
takes_point Double = true

-- A decimal digit, and any other byte.
abbrev pub is_digit : ℕ → Bool
is_digit c = nat_lt (digit_value c) 10

abbrev pub is_other : ℕ → Bool
is_other c = not (is_digit c)

-- The byte marks the power of ten in a numeral of the kind.
abbrev pub marks_power : NumberKind → ℕ → Bool
marks_power Integer c = false
marks_power Decimal c = false
marks_power Double c = (c == 101) || (c == 69)

-- A numeral of the kind without a power of ten.
abbrev pub IsFrontOf : NumberKind → List ℕ → Type 0
IsFrontOf Integer = IsInteger
IsFrontOf Decimal = IsDecimal
IsFrontOf Double = IsDecimal

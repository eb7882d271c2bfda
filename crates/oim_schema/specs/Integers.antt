-- The integer types with bounds (XML Schema Part 2, second edition, sections 3.3.14 to 3.3.25): the
-- least and the greatest number of each type, as minInclusive and maxInclusive give them.
use Rattle.std.specs.Prelude.{◌≡◌, ℕ, ℤ, pos, negsuc, ◌≤ℤ◌, int_le, List, Option, Some, None, Bool, true, false, not, ◌&&◌, ◌||◌, ⊤}
use Rattle.std.specs.Str.Parse.{IsNumeral, signed_digits_value}
use Rattle.oim_cells.specs.Numeral.{IsInteger, is_integer_text, is_digits}
use Rattle.oim_schema.specs.declared.integers.IntegerType.{IntegerType}
use Rattle.oim_schema.specs.declared.integers.IntegerType.TheVariants as t

-- The least number of a type. `negsuc n` is -(n + 1).
abbrev pub least_of : IntegerType → Option ℤ
least_of t.PositiveInteger = Some (pos 1)
least_of t.NonNegativeInteger = Some (pos 0)
least_of t.NegativeInteger = None
least_of t.NonPositiveInteger = None
least_of t.Long = Some (negsuc 9_223_372_036_854_775_807)
least_of t.Int = Some (negsuc 2_147_483_647)
least_of t.Short = Some (negsuc 32_767)
least_of t.Byte = Some (negsuc 127)
least_of t.UnsignedLong = Some (pos 0)
least_of t.UnsignedInt = Some (pos 0)
least_of t.UnsignedShort = Some (pos 0)
least_of t.UnsignedByte = Some (pos 0)

-- The greatest number of a type.
abbrev pub greatest_of : IntegerType → Option ℤ
greatest_of t.PositiveInteger = None
greatest_of t.NonNegativeInteger = None
greatest_of t.NegativeInteger = Some (negsuc 0)
greatest_of t.NonPositiveInteger = Some (pos 0)
greatest_of t.Long = Some (pos 9_223_372_036_854_775_807)
greatest_of t.Int = Some (pos 2_147_483_647)
greatest_of t.Short = Some (pos 32_767)
greatest_of t.Byte = Some (pos 127)
greatest_of t.UnsignedLong = Some (pos 18_446_744_073_709_551_615)
greatest_of t.UnsignedInt = Some (pos 4_294_967_295)
greatest_of t.UnsignedShort = Some (pos 65_535)
greatest_of t.UnsignedByte = Some (pos 255)

-- The types whose numerals have no sign.
abbrev pub is_unsigned : IntegerType → Bool
is_unsigned t.PositiveInteger = false
is_unsigned t.NonNegativeInteger = false
is_unsigned t.NegativeInteger = false
is_unsigned t.NonPositiveInteger = false
is_unsigned t.Long = false
is_unsigned t.Int = false
is_unsigned t.Short = false
is_unsigned t.Byte = false
is_unsigned t.UnsignedLong = true
is_unsigned t.UnsignedInt = true
is_unsigned t.UnsignedShort = true
is_unsigned t.UnsignedByte = true

-- A number is not below a bound, or not above it. Where there is no bound, every number is.
abbrev pub IsFrom : Option ℤ → ℤ → Type 0
IsFrom None z = ⊤
IsFrom (Some bound) z = bound ≤ℤ z

abbrev pub IsTo : Option ℤ → ℤ → Type 0
IsTo None z = ⊤
IsTo (Some bound) z = z ≤ℤ bound

-- A number of the type.
abbrev pub IsInBounds : IntegerType → ℤ → Type 0
IsInBounds kind z = IsFrom (least_of kind) z × IsTo (greatest_of kind) z

-- The numeral of an integer whose value is a number of the type. Where the type has no sign, the
-- numeral is digits.
abbrev pub IsBoundedInteger : IntegerType → List ℕ → Type 0
IsBoundedInteger kind s = IsInteger s × IsInBounds kind (signed_digits_value 10 s) × (is_unsigned kind ≡ true → IsNumeral 10 s)

-- The same as tests.
abbrev pub is_from : Option ℤ → ℤ → Bool
is_from None z = true
is_from (Some bound) z = int_le bound z

abbrev pub is_to : Option ℤ → ℤ → Bool
is_to None z = true
is_to (Some bound) z = int_le z bound

abbrev pub is_in_bounds : IntegerType → ℤ → Bool
is_in_bounds kind z = is_from (least_of kind) z && is_to (greatest_of kind) z

unfoldable pub is_bounded_integer : IntegerType → List ℕ → Bool
is_bounded_integer kind s = is_integer_text s && is_in_bounds kind (signed_digits_value 10 s) && (not (is_unsigned kind) || is_digits s)

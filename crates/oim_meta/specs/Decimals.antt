-- Decimals as the metadata writes them (xBRL-CSV 1.0, the decimals property): a whole number in the
-- range of 32 bits, or a text.
use Rattle.std.specs.Prelude.{ℕ, ◌^◌, ℤ, pos, negsuc, List, bytes_eq, nat_lt, Bool, Option, Some, None, option_and_then, codes, if◌then◌else◌}
use Rattle.serde_json.specs.Data.{Data}
use Rattle.serde_json.specs.Find.{as_number, as_i64}
use Rattle.oim_cells.specs.Cells.{accuracy_of}
use Rattle.oim_cells.specs.declared.cells.Accuracy.{Accuracy}
use Rattle.oim_cells.specs.declared.cells.Accuracy.TheVariants.{Places}
use Rattle.oim_meta.specs.Members.{text_of}
use Rattle.oim_meta.specs.Written.{strip_front}
use Rattle.oim_report.specs.declared.data.WrittenDecimals.{WrittenDecimals}
use Rattle.oim_report.specs.declared.data.WrittenDecimals.TheVariants.{Absent, Fixed, RowNumber, Named}

abbrev pub fits_i32 : ℤ → Bool
fits_i32 (pos n) = nat_lt n (2 ^ 31)
fits_i32 (negsuc n) = nat_lt n (2 ^ 31)

abbrev pub in_range : ℤ → Option ℤ
in_range z = if fits_i32 z then Some z else None

-- A whole number in the range of 32 bits.
abbrev pub whole_of : Data → Option ℤ
whole_of d = option_and_then in_range (option_and_then as_i64 (as_number d))

abbrev pub named_decimals : List ℕ → WrittenDecimals
named_decimals name = if bytes_eq name (codes "rowNumber") then RowNumber else Named name

-- An accuracy, or absent. A text without a meaning is a fault.
abbrev pub fixed_by : Option Accuracy → WrittenDecimals
fixed_by (Some accuracy) = Fixed accuracy
fixed_by None = Absent

abbrev pub decimals_by_dollar : List ℕ → Option (List ℕ) → WrittenDecimals
decimals_by_dollar s (Some name) = named_decimals name
decimals_by_dollar s None = fixed_by (accuracy_of s)

-- The decimals that a text writes. A dollar sign begins a reference.
unfoldable pub text_decimals : List ℕ → WrittenDecimals
text_decimals s = if bytes_eq s (codes "#none") then Absent else decimals_by_dollar s (strip_front (codes "$") s)

abbrev pub whole_or : Data → Option ℤ → WrittenDecimals
whole_or d (Some n) = Fixed (Places n)
whole_or d None = text_decimals (text_of d)

abbrev pub decimals_of : Data → WrittenDecimals
decimals_of d = whole_or d (whole_of d)

-- Worked cases of the definitions.
use Rattle.std.proofs.Common.{◌≡◌, true, false, List, ℕ, [], ◌∷◌, ◌++◌, Some, None, Ok, Err, codes, refl, arith}
use Rattle.std.proofs.lemmas.Fmt.{decimal_digit}
use Rattle.csv.specs.Records.{field_at}
use Rattle.oim_cells.specs.Cells.{Absent, Text}
use Rattle.oim_json.specs.JsonText.{escaped_byte, quoted, value_text}
use Rattle.oim_report.specs.Readers.{no_column, no_level}
use Rattle.oim_report.specs.declared.data.Column.{Column as AColumn}
use Rattle.oim_report.specs.declared.data.Level.{Level}
use Rattle.oim_report.specs.declared.kind.Concept.{Concept}
use Rattle.oim_report.specs.ReportValue.{ReportValue}
use Rattle.oim_report.specs.declared.data.Side.TheVariants as side
use Rattle.oim_report.specs.declared.kind.Kind.TheVariants as kind
use Rattle.oim_report.specs.declared.kind.PeriodType.TheVariants.{Duration, Instant}
use Rattle.oim_report.specs.declared.kind.ValueType.TheVariants as item
use Rattle.oim_resolve.specs.declared.fact.CellFault.TheVariants.{NoConcept}
use Rattle.oim_rows.specs.RowFacts.{TableHeaderValue}
use Rattle.oim_row.specs.Answers.{dimension_json, is_sound_for, json_for, kind_in}
use Rattle.oim_row.specs.Groups.{group_at, names_none}
use Rattle.oim_row.specs.Rows.{RowValue}
use Rattle.oim_row.specs.Sources.{Column, RowNumber, source_text}
use Rattle.oim_row.specs.declared.group_cells.Choice.TheVariants as choice
use Rattle.oim_row.specs.declared.purpose.Purpose.TheVariants.{WantedPeriod, WantedUnit}

-- SOURCES (xBRL-CSV 1.0, column and parameter references)

abbrev row : TableHeaderValue → List (List ℕ) → RowValue
row f fields = record { header = f; number = 7; fields = fields }

-- The cell overrides the parameter.
cell_first : (f : TableHeaderValue) → source_text (row f (codes "r" ∷ codes "eg:B" ∷ [])) (Column 1 (codes "eg:A")) ≡ codes "eg:B"
unfolding field_at
cell_first f = refl

-- An empty cell and a missing cell take the parameter.
empty_cell : (f : TableHeaderValue) → source_text (row f (codes "r" ∷ [] ∷ [])) (Column 1 (codes "eg:A")) ≡ codes "eg:A"
unfolding field_at
empty_cell f = refl

-- `#none` is not an empty cell.
none_is_a_text : (f : TableHeaderValue) → source_text (row f (codes "#none" ∷ [])) (Column 0 (codes "eg:A")) ≡ codes "#none"
unfolding field_at
none_is_a_text f = refl

number_of_the_row : (f : TableHeaderValue) → source_text (row f []) RowNumber ≡ codes "7"
number_of_the_row f = decimal_digit 7 (omega arith)

-- JSON (xBRL-JSON 1.0, the dimensions and decimals of a fact)

no_value : dimension_json None ≡ []
no_value = refl

nil_value : dimension_json (Some None) ≡ codes "null,"
unfolding value_text
nil_value = refl

-- A quote and a line feed are escaped.
text_value : dimension_json (Some (Some (codes "a\"b" ++ 10 ∷ []))) ≡ codes "\"a\\\"b\\n\","
unfolding value_text quoted escaped_byte
text_value = refl

-- GROUPS (xBRL-CSV 1.0, property groups)

abbrev eu : Level
eu = no_level

abbrev column : AColumn
column = record no_column { groups = (codes "eu", eu) ∷ [] }

group_of_a_place : group_at column.groups (choice.Group 0) ≡ Some eu
group_of_a_place = refl

no_group_at_a_place : group_at column.groups (choice.Group 1) ≡ None
no_group_at_a_place = refl

a_group_is_named : names_none column (Text (codes "eu")) ≡ false
a_group_is_named = refl

no_group_is_named : names_none column (Text (codes "us")) ≡ true
no_group_is_named = refl

-- KINDS

-- A concept with the type of its values is one like the others.
kind_with_a_type : (a : Concept) → kind_in (Ok (kind.Concept a)) ≡ Some (kind.Concept a)
kind_with_a_type a = refl

no_kind : kind_in (Err NoConcept) ≡ None
no_kind = refl

-- THE UNIT AND THE PERIOD THAT A CONCEPT WANTS

-- Amounts of money have a unit. They give no text of their own.
no_currency : (r : ReportValue) → is_sound_for r (WantedUnit item.Monetary) Absent ≡ false
no_currency r = refl

no_unit_of_a_number : (r : ReportValue) → is_sound_for r (WantedUnit item.Other) Absent ≡ true
no_unit_of_a_number r = refl

no_text_of_a_wanted_unit : (r : ReportValue) → json_for r (WantedUnit item.Shares) (Text (codes "xbrli:shares")) ≡ []
no_text_of_a_wanted_unit r = refl

-- No period means for ever, which is not an instant.
no_instant : (r : ReportValue) → is_sound_for r (WantedPeriod Instant side.Whole) Absent ≡ false
no_instant r = refl

for_ever : (r : ReportValue) → is_sound_for r (WantedPeriod Duration side.Whole) Absent ≡ true
for_ever r = refl

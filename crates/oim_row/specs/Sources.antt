-- The source of a reference whose meaning each row of a table gives. (xBRL-CSV 1.0, column and
-- parameter references)
use Rattle.std.specs.Prelude.{ℕ, List, [], ◌∷◌, Option, Some, None, decimal}
use Rattle.std.specs.Option.{option_map, option_and_then, unwrap_or}
use Rattle.oim_report.specs.Readers.{column_named, parameter_of}
use Rattle.oim_report.specs.declared.data.Written.{Written}
use Rattle.oim_report.specs.declared.data.Written.TheVariants as w
use Rattle.oim_report.specs.declared.data.WrittenDecimals.{WrittenDecimals}
use Rattle.oim_report.specs.declared.data.WrittenDecimals.TheVariants as d
use Rattle.oim_rows.specs.RowFacts.{TableHeaderValue, field_or_empty, source_of_column}
use Rattle.oim_row.specs.Rows.{RowValue}
use Rattle.oim_row.specs.declared.reference_target.ReferenceTarget.{ReferenceTarget}
use Rattle.oim_row.specs.declared.reference_target.ReferenceTarget.TheVariants as seen

-- The number of the row, or the index in the header of a column and the text of the parameter of
-- the same name. The text is empty if the parameter does not exist.
pub data SourceValue : Type 0 where
  RowNumber : SourceValue
  Column : ℕ → List ℕ → SourceValue

abbrev pub seen_source : ReferenceTarget → SourceValue
seen_source seen.RowNumber = RowNumber
seen_source (seen.Column place parameter) = Column place parameter.now

-- The cell, or the parameter if the cell is empty.
abbrev pub cell_or_parameter : List ℕ → List ℕ → List ℕ
cell_or_parameter [] parameter = parameter
cell_or_parameter (b ∷ bs) parameter = b ∷ bs

-- The text of what is named in a row.
abbrev pub source_text : RowValue → SourceValue → List ℕ
source_text x RowNumber = decimal x.number
source_text x (Column place parameter) = cell_or_parameter (field_or_empty x.fields (Some place)) parameter

-- The index in the header of the column with this name.
abbrev pub place_named : TableHeaderValue → List ℕ → Option ℕ
place_named f n = option_and_then (source_of_column f.columns) (column_named f.report f.table n)

-- What a reference to a name names, if the header has its column. Otherwise each row has only the
-- parameter.
abbrev pub source_named : TableHeaderValue → List ℕ → Option SourceValue
source_named f n = option_map (λ place. Column place (unwrap_or (parameter_of f.report f.table n) [])) (place_named f n)

abbrev pub source_written : TableHeaderValue → Written → Option SourceValue
source_written f (w.RowNumber s) = Some RowNumber
source_written f (w.Named n s) = source_named f n
source_written f _ = None

abbrev pub source_decimals : TableHeaderValue → WrittenDecimals → Option SourceValue
source_decimals f d.RowNumber = Some RowNumber
source_decimals f (d.Named n) = source_named f n
source_decimals f _ = None

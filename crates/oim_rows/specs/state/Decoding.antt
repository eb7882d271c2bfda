-- What is kept of a table while its rows are read.
use Rattle.std.specs.Prelude.{◌≡◌, ◌<◌, ⊤, List, [], ℕ, Option, Some, map, length, nat_eq}
use Rattle.std.specs.List.{range_with_len}
use Rattle.indexmap.specs.IndexMap.{IndexMap, get}
use Rattle.oim_report.specs.Readers.{columns_of}
use Rattle.oim_report.specs.declared.data.Column.{Column}
use Rattle.oim_rows.specs.Header.{Header, repeat_from}
use Rattle.oim_rows.specs.RowFacts.{TableHeaderValue, source_of_column}
use Rattle.oim_rows.specs.declared.header_columns.NoIndex.{NoIndex}
use Rattle.oim_rows.specs.declared.header_columns.NoIndex.TheVariants as reason

-- The columns are those of the table, and each column's index in the header is known.
pub record IsOfTable (header : TableHeaderValue) (columns : List Column) (sources : List (Option ℕ)) : Type 0 where
  pub in_range : header.table < length header.report.tables
  pub all_columns : columns ≡ columns_of header.report header.table
  pub sources_are : sources ≡ map (source_of_column header.columns) (range_with_len 0 (length columns))

-- The index has for each column its place in the header, and nothing for a column that does not
-- occur.
abbrev pub IsIndexOf : {S : Type 0} → Header → IndexMap ℕ ℕ S → Type 0
IsIndexOf h index = (c : ℕ) → get nat_eq index c ≡ source_of_column h c

-- Why a header has no index: a column occurs twice, at this place again, or memory ran out.
abbrev pub IsReason : Header → NoIndex → Type 0
IsReason h (reason.Repeated place) = repeat_from 0 [] h ≡ Some place
IsReason h reason.Memory = ⊤

-- The facts of one row of a table, or its first fault. (xBRL-CSV 1.0, table files: a row has a cell
-- for each column of the header. The row identifier is the text of the template's column for it.)
use Rattle.std.specs.Prelude.{◌≡◌, List, [], ◌∷◌, ◌++◌, ℕ, ◌+◌, Bool, false, not, ◌==◌, nat_lt, if◌then◌else◌}
use Rattle.std.specs.Prelude.{Option, Some, None, option_map, map, length, Result, Ok, Err, codes, decimal, unwrap_or, slice_get}
use Rattle.std.specs.List.{enumerate_from, list_any, position_from, range_with_len}
use Rattle.std.specs.Option.{option_map_or}
use Rattle.std.specs.Str.{bytes_eq, is_utf8}
use Rattle.csv.specs.Records.{field_at}
use Rattle.oim_names.specs.Names.{is_row_identifier}
use Rattle.oim_records.specs.Grids.{Field, Record}
use Rattle.oim_report.specs.Readers.{columns_of, holds_facts, template_of}
use Rattle.oim_report.specs.ReportValue.{ReportValue}
use Rattle.oim_report.specs.declared.data.Column.{Column}
use Rattle.oim_resolve.specs.Cell.{cell_of}
use Rattle.oim_resolve.specs.Facts.{cell_result}
use Rattle.oim_resolve.specs.declared.fact.CellFault.{CellFault}
use Rattle.oim_resolve.specs.FactParts.{FactParts as Fact}
use Rattle.oim_resolve.specs.declared.fact.Row.{Row}
use Rattle.oim_rows.specs.Header.{Header, first_of, fault_at, is_column, is_empty}
use Rattle.oim_rows.specs.declared.fault.TableFault.{TableFault}
use Rattle.oim_rows.specs.declared.fault.TableKind.{TableKind}
use Rattle.oim_rows.specs.declared.fault.TableKind.TheVariants as kind

-- The header of a table as it was read: the report and the table's index there, the most rows that
-- it may have, and the column of each cell of the header.
pub record TableHeaderValue : Type 0 where
  pub report : ReportValue
  pub table : ℕ
  pub limit : ℕ
  pub columns : Header

-- The index in the header of a column of the template.
abbrev pub source_of_column : Header → ℕ → Option ℕ
source_of_column h c = position_from (is_column c) 0 h

abbrev pub field_or_empty : Record → Option ℕ → Field
field_or_empty r None = []
field_or_empty r (Some p) = unwrap_or (field_at r p) []

-- The cell of a column: the empty text if the header omits the column.
abbrev pub cell_at : Header → Record → ℕ → Field
cell_at h r c = field_or_empty r (source_of_column h c)

abbrev pub is_not_text : Field → Bool
is_not_text f = not (is_utf8 f)

-- Each field is text.
abbrev pub IsTextRecord : Record → Type 0
IsTextRecord r = position_from is_not_text 0 r ≡ None

-- The index in the header of the row identifier, if the template has a column for it.
abbrev pub row_id_place : Option ℕ → Header → Option ℕ
row_id_place None h = None
row_id_place (Some c) h = source_of_column h c

-- The index in the header of a table's row identifier.
abbrev pub id_place_of : TableHeaderValue → Option ℕ
id_place_of g = row_id_place (template_of g.report g.table).row_id_column g.columns

-- The identifier of row `n`: the text of its cell, or `r_` and the row number if the table has no
-- column for it.
abbrev pub row_id_text : Option ℕ → ℕ → Record → Field
row_id_text None n r = codes "r_" ++ decimal n
row_id_text (Some p) n r = unwrap_or (field_at r p) []

-- Row `n` as cells are resolved from it: a cell for each column of the template, in the template's
-- order.
abbrev pub row_of : TableHeaderValue → ℕ → Record → Row
row_of g n r = record {
  number = n;
  id = row_id_text (id_place_of g) n r;
  cells = map (cell_at g.columns r) (range_with_len 0 (length (columns_of g.report g.table)));
}

-- The fault of a row identifier, if `ids` are those of the earlier rows.
abbrev pub id_kind : List Field → Field → Option TableKind
id_kind ids f =
    if is_empty f then Some kind.MissingRowId
    else if not (is_row_identifier f) then Some kind.BadRowId
    else if list_any (bytes_eq f) ids then Some kind.RepeatedRowId else None

abbrev pub id_fault : TableHeaderValue → Option ℕ → ℕ → List Field → Record → Option TableFault
id_fault g None n ids r = None
id_fault g (Some p) n ids r = option_map (fault_at g.table n (p + 1)) (id_kind ids (unwrap_or (field_at r p) []))

-- The row and the header differ in length.
abbrev pub ragged_fault : TableHeaderValue → ℕ → Record → Option TableFault
ragged_fault g n r = if not (length r == length g.columns) then Some (fault_at g.table n 0 kind.Ragged) else None

-- A cell is not UTF-8.
abbrev pub text_fault : TableHeaderValue → ℕ → Record → Option TableFault
text_fault g n r = option_map (λ p. fault_at g.table n (p + 1) kind.NotUtf8) (position_from is_not_text 0 r)

-- The table has more rows than the limit.
abbrev pub limit_fault : TableHeaderValue → ℕ → Option TableFault
limit_fault g n = if nat_lt g.limit n then Some (fault_at g.table n 0 kind.TooManyRows) else None

-- The faults of row `n` apart from those of its cells, the first to report first.
abbrev pub row_faults : TableHeaderValue → ℕ → List Field → Record → List (Option TableFault)
row_faults g n ids r = ragged_fault g n r ∷ text_fault g n r ∷ limit_fault g n ∷ id_fault g (id_place_of g) n ids r ∷ []

abbrev pub row_fault : TableHeaderValue → ℕ → List Field → Record → Option TableFault
row_fault g n ids r = first_of (row_faults g n ids r)

-- The index is that of a column that holds facts.
abbrev pub is_fact_column : List Column → ℕ → Bool
is_fact_column columns c = option_map_or (λ (x : Column). holds_facts x.kind) (slice_get columns c) false

-- The result of a cell of row `n` at place `p` of the header, from 1.
abbrev pub at_place : ℕ → ℕ → ℕ → Result (Option Fact) CellFault → Result (Option Fact) TableFault
at_place table n p (Ok o) = Ok o
at_place table n p (Err k) = Err (fault_at table n p (kind.Cell k))

-- What the header cell at index `p` gives in a row: nothing if its column holds no facts.
abbrev pub fact_at : ReportValue → ℕ → Row → ℕ → Option ℕ → Result (Option Fact) TableFault
fact_at report table row p None = Ok None
fact_at report table row p (Some c) = if is_fact_column (columns_of report table) c then at_place table row.number (p + 1) (cell_result (cell_of report table row c)) else Ok None

-- One more result before the others.
abbrev pub in_front : Result (Option Fact) TableFault → Result (List Fact) TableFault → Result (List Fact) TableFault
in_front (Err e) r = Err e
in_front (Ok None) r = r
in_front (Ok (Some f)) (Ok fs) = Ok (f ∷ fs)
in_front (Ok (Some f)) (Err e) = Err e

-- The facts of all results, or the first fault.
abbrev pub all_or_first : List (Result (Option Fact) TableFault) → Result (List Fact) TableFault
all_or_first [] = Ok []
all_or_first (answer ∷ answers) = in_front answer (all_or_first answers)

-- The facts of a row in header order, or the fault of the first cell that has one. The first index
-- of the header is `p`.
abbrev pub facts_from : ReportValue → ℕ → Row → ℕ → Header → Result (List Fact) TableFault
facts_from report table row p h = all_or_first (map (λ cell. fact_at report table row cell.0 cell.1) (enumerate_from p h))

abbrev pub checked : Option TableFault → Result (List Fact) TableFault → Result (List Fact) TableFault
checked (Some e) r = Err e
checked None r = r

-- Row `n`, if the rows before it have the identifiers `ids`: its facts, or its first fault.
abbrev pub row_result : TableHeaderValue → ℕ → List Field → Record → Result (List Fact) TableFault
row_result g n ids r = checked (row_fault g n ids r) (facts_from g.report g.table (row_of g n r) 0 g.columns)

-- The row identifiers after row `r`, if the table has a column for them.
abbrev pub ids_after : Option ℕ → List Field → Record → List Field
ids_after None ids r = ids
ids_after (Some p) ids r = ids ++ unwrap_or (field_at r p) [] ∷ []

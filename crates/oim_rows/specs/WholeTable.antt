-- A table's stream for all its rows at once: the facts of each row before the first bad one, and
-- that row's fault. (xBRL-CSV 1.0, table files: row n is the nth record after the header)
use Rattle.std.specs.Prelude.{List, [], ◌∷◌, ◌++◌, ◌≡◌, ℕ, ◌+◌, zero, suc, Option, Some, None, MatchOption, Result, Ok, Err, length, map, take, unwrap_or}
use Rattle.csv.specs.Records.{field_at}
use Rattle.oim_records.specs.Grids.{Field, Record, grid}
use Rattle.oim_report.specs.ReportValue.{ReportValue}
use Rattle.oim_resolve.specs.FactParts.{FactParts as Fact}
use Rattle.oim_rows.specs.Header.{file_fault, header_fault}
use Rattle.oim_rows.specs.RowFacts.{TableHeaderValue, id_place_of, row_result}
use Rattle.oim_rows.specs.Streams.{Stream, ending, no_file, table_header_of}
use Rattle.oim_rows.specs.declared.fault.TableFault.{TableFault}
use Rattle.oim_rows.specs.declared.fault.TableKind.TheVariants as kind

-- The row at an index.
abbrev pub row_at : {A : Type 0} → List A → ℕ → Option A
row_at [] m = None
row_at (r ∷ rows) zero = Some r
row_at (r ∷ rows) (suc m) = row_at rows m

-- The row identifiers of these rows, if the table has a column for them.
abbrev pub ids_of : Option ℕ → List Record → List Field
ids_of None rows = []
ids_of (Some p) rows = map (λ r. unwrap_or (field_at r p) []) rows

-- What a row gives after the earlier rows of its table.
abbrev pub row_after : TableHeaderValue → List Record → Record → Result (List Fact) TableFault
row_after g earlier r = row_result g (length earlier + 1) (ids_of (id_place_of g) earlier) r

-- What the row at an index gives, if it exists.
abbrev pub RowGives : TableHeaderValue → List Record → List Record → ℕ → Result (List Fact) TableFault → Type 0
RowGives g earlier rows m answer = (r : Record) × (row_at rows m ≡ Some r) × (row_after g (earlier ++ take m rows) r ≡ answer)

-- Each of the stream's rows is given by the row at its index. The row after them has the stream's
-- fault, or no row follows.
pub record IsStreamOf (g : TableHeaderValue) (earlier rows : List Record) (s : Stream) : Type 0 where
  pub good : (m : ℕ) (facts : List Fact) → row_at s.rows m ≡ Some facts → RowGives g earlier rows m (Ok facts)
  pub end : MatchOption s.fault (length s.rows ≡ length rows) (λ e. RowGives g earlier rows (length s.rows) (Err e))

-- The stream of a table whose file has these records: only the fault of its header, or that of its
-- rows.
abbrev pub IsFileStream : ReportValue → ℕ → ℕ → List Record → Stream → Type 0
IsFileStream report table limit [] s = s ≡ ending (Some (file_fault table kind.NoHeader))
IsFileStream report table limit (r ∷ rows) s = MatchOption (header_fault report table r) (IsStreamOf (table_header_of report table limit r) [] rows s) (λ e. s ≡ ending (Some e))

-- The stream of a table whose file has these bytes, or that has no file.
abbrev pub IsTableStream : ReportValue → ℕ → ℕ → Option (List ℕ) → Stream → Type 0
IsTableStream report table limit None s = s ≡ no_file report table
IsTableStream report table limit (Some bytes) s = IsFileStream report table limit (grid bytes) s

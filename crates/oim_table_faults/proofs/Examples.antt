-- Worked cases of all faults of a table (xBRL-CSV 1.0, table files).
use Rattle.std.proofs.Common.{◌≡◌, ◌++◌, ℕ, Bool, true, false, List, [], ◌∷◌, Option, Some, None, codes, map, refl, inl, inr}
use Rattle.std.specs.Prelude.{⊤}
use Rattle.std.specs.Str.{chars, is_utf8}
use Rattle.csv.specs.Machine.{next_record}
use Rattle.csv.specs.Reading.{records_from, strip_bom}
use Rattle.csv.specs.Records.{field_at}
use Rattle.oim_names.specs.Names.{is_ncname, is_name_char, is_name_start, is_plain_char, is_row_identifier}
use Rattle.oim_names.specs.QName.{qname_of}
use Rattle.oim_cells.specs.Cells.{accuracy_of, meaning_of, numeral_of}
use Rattle.oim_cells.specs.declared.cells.NumberKind.TheVariants as number
use Rattle.oim_records.specs.Grids.{records_left}
use Rattle.oim_report.specs.Readers.{no_level}
use Rattle.oim_report.specs.ReportValue.{ReportValue}
use Rattle.oim_report.specs.declared.data.Column.{Column}
use Rattle.oim_report.specs.declared.data.ColumnKind.TheVariants as content
use Rattle.oim_report.specs.declared.data.Written.TheVariants as written
use Rattle.oim_report.specs.declared.kind.Kind.{Kind}
use Rattle.oim_report.specs.declared.kind.Kind.TheVariants as type
use Rattle.oim_report.specs.declared.typed_name.TypedName.{TypedName}
use Rattle.oim_resolve.specs.Facts.{cell_result, fact_of, rest_faults}
use Rattle.oim_resolve.specs.declared.fact.CellFault.TheVariants as cell
use Rattle.oim_rows.specs.FaultNames.{number_of}
use Rattle.oim_rows.specs.Header.{fault_at, file_fault}
use Rattle.oim_rows.specs.declared.fault.TableFault.{TableFault}
use Rattle.oim_rows.specs.declared.fault.TableKind.TheVariants as kind
use Rattle.oim_table_faults.specs.Reading.{IsFaultList}
use Rattle.oim_table_faults.specs.TableFaults.{bad_rows, table_faults}

-- What is unfolded to compute with cells, identifiers and files that are written out.
unfoldable cells_on_literals : ⊤
unfolding cell_result rest_faults fact_of meaning_of numeral_of accuracy_of chars is_utf8 lib.Utf8.encode is_ncname is_name_char is_name_start qname_of
cells_on_literals = tt

unfoldable on_literals : ⊤
unfolding bad_rows cells_on_literals is_row_identifier is_plain_char field_at records_left records_from strip_bom next_record
on_literals = tt

abbrev column : List ℕ → List ℕ → Column
column id concept = record { id = id; kind = content.Fact; level = record { dimensions = (codes "concept", written.Text concept) ∷ []; decimals = None }; groups = []; from = [] }

abbrev typed : List ℕ → Kind → TypedName
typed local kind = record { uri = codes "http://example.com/eg"; local = local; kind = kind }

-- A report of one table with the columns cash, an integer, k and note, a text. `ids` is the index
-- of the column of row identifiers.
abbrev report_by : Option ℕ → Bool → ReportValue
report_by ids optional = record {
  info = record { base_url = None; taxonomy = [] };
  namespaces = (codes "eg", codes "http://example.com/eg") ∷ [];
  types = typed (codes "Cash") (type.Number number.Integer) ∷ typed (codes "Note") type.Text ∷ [];
  level = no_level;
  templates = record {
    id = codes "m";
    columns = column (codes "cash") (codes "eg:Cash")
        ∷ record { id = codes "k"; kind = content.Plain; level = no_level; groups = []; from = [] }
        ∷ column (codes "note") (codes "eg:Note") ∷ [];
    row_id_column = ids;
    level = no_level;
  } ∷ [];
  tables = record { id = codes "t1"; url = codes "t1.csv"; is_optional = optional; template = 0; parameters = [] } ∷ [];
  parameters = [];
}

-- Row, column and number of each fault of the table whose file has these bytes, with a limit of
-- rows.
abbrev told : TableFault → ℕ × ℕ × ℕ
told f = (f.row, f.column, number_of f.kind)

abbrev told_within : ℕ → List ℕ → List (ℕ × ℕ × ℕ)
told_within limit bytes = map told (table_faults (report_by (Some 1) false) 0 limit (Some bytes))

abbrev told_of : List ℕ → List (ℕ × ℕ × ℕ)
told_of rows = told_within 9 (codes "k,cash,note\n" ++ rows)

-- CELLS: each faulty cell has its fault, in header order. A good row between bad ones adds nothing.
good_rows : told_of (codes "a,1,x\nb,2,y\n") ≡ []
unfolding on_literals
good_rows = refl

faulty_cells : told_of (codes "a,1x,#foo\nb,2,y\nc,z,#bar\n") ≡ (1, 2, 40) ∷ (1, 3, 31) ∷ (3, 2, 40) ∷ (3, 3, 31) ∷ []
unfolding on_literals
faulty_cells = refl

-- The header may have its columns in any order and empty cells. What is below these, or in a column
-- without facts, is not asked.
cells_in_header_order : told_within 9 (codes "note,,k,cash\n#foo,#foo,a,1x\n") ≡ (1, 1, 31) ∷ (1, 4, 40) ∷ []
unfolding on_literals
cells_in_header_order = refl

-- ROWS: the fault of a row itself is its only one. What its cells mean is not asked.
faults_of_rows_alone : told_of (codes "a,1,x\na,z,y\na,3\n,1,x\na.b,z,y\n") ≡ (2, 1, 30) ∷ (3, 0, 26) ∷ (4, 1, 28) ∷ (5, 1, 29) ∷ []
unfolding on_literals
faults_of_rows_alone = refl

row_that_is_not_text : told_of (codes "a,z," ++ 255 ∷ codes "\n") ≡ (1, 3, 27) ∷ []
unfolding on_literals
row_that_is_not_text = refl

-- IDENTIFIERS: a row has one although a cell is bad or an earlier row has it, but not if the row is
-- ragged or not text, or the identifier missing or bad.
bad_cell_before : told_of (codes "a,x,y\na,1,y\n") ≡ (1, 2, 40) ∷ (2, 1, 30) ∷ []
unfolding on_literals
bad_cell_before = refl

repeated_twice : told_of (codes "a,1,y\na,z,y\na,1,y\n") ≡ (2, 1, 30) ∷ (3, 1, 30) ∷ []
unfolding on_literals
repeated_twice = refl

ragged_before : told_of (codes "a,1\na,1,y\n") ≡ (1, 0, 26) ∷ []
unfolding on_literals
ragged_before = refl

not_text_before : told_of (codes "a,1," ++ 255 ∷ codes "\na,1,y\n") ≡ (1, 3, 27) ∷ []
unfolding on_literals
not_text_before = refl

bad_ids_before : told_of (codes "a.b,1,y\na.b,1,y\n,1,y\n,1,y\n") ≡ (1, 1, 29) ∷ (2, 1, 29) ∷ (3, 1, 28) ∷ (4, 1, 28) ∷ []
unfolding on_literals
bad_ids_before = refl

-- Without a column for them, rows do not repeat identifiers.
rows_by_number : map told (table_faults (report_by None false) 0 9 (Some (codes "k,cash,note\na,1,y\na,z,y\n"))) ≡ (2, 2, 40) ∷ []
unfolding on_literals
rows_by_number = refl

-- THE LIMIT: the first row past it is the last that is looked at. It is ragged, or not text, or too
-- many, whatever else it has.
rows_past_the_limit : told_within 2 (codes "k,cash,note\na,1x,y\nb,2,y\na,z,y\nd,z\n") ≡ (1, 2, 40) ∷ (3, 0, 41) ∷ []
unfolding on_literals
rows_past_the_limit = refl

ragged_past_the_limit : told_within 1 (codes "k,cash,note\na,1,y\nb\nc\n") ≡ (2, 0, 26) ∷ []
unfolding on_literals
ragged_past_the_limit = refl

not_text_past_the_limit : told_within 1 (codes "k,cash,note\na,1,y\nb,1," ++ 255 ∷ codes "\nc,z,y\n") ≡ (2, 3, 27) ∷ []
unfolding on_literals
not_text_past_the_limit = refl

as_many_as_the_limit : told_within 1 (codes "k,cash,note\na,z,y\n") ≡ (1, 2, 40) ∷ []
unfolding on_literals
as_many_as_the_limit = refl

-- FILES: a fault before the rows is the only one.
bad_headers : map (told_within 9) (codes "k,nope\na,z\n" ∷ codes "k,cash,k\na,z,b\n" ∷ codes "cash\nz\n" ∷ [] ∷ [])
    ≡ ((0, 2, 23) ∷ []) ∷ ((0, 3, 24) ∷ []) ∷ ((0, 0, 25) ∷ []) ∷ ((0, 0, 22) ∷ []) ∷ []
unfolding on_literals
bad_headers = refl

no_rows : told_within 9 (codes "k,cash\n") ≡ []
unfolding on_literals
no_rows = refl

no_file : (map told (table_faults (report_by (Some 1) false) 0 9 None) ≡ (0, 0, 20) ∷ []) × (table_faults (report_by (Some 1) true) 0 9 None ≡ [])
no_file = (refl, refl)

-- A LIST CUT SHORT: of two bad rows the first one's faults, and then the reader failed.
abbrev two_bad_rows : List ℕ
two_bad_rows = codes "k,cash,note\na,x,#foo\nb,z,y\n"

abbrev first_row : List TableFault
first_row = fault_at 0 1 2 (kind.Cell cell.BadNumber) ∷ fault_at 0 1 3 (kind.Cell cell.UnknownSpecial) ∷ []

cut_behind_a_row : IsFaultList (report_by (Some 1) false) 0 9 two_bad_rows (first_row ++ file_fault 0 kind.Read ∷ [])
unfolding on_literals
cut_behind_a_row = inr (record {
  front = first_row ∷ [];
  rest = (fault_at 0 2 2 (kind.Cell cell.BadNumber) ∷ []) ∷ [];
  failure = file_fault 0 kind.Read;
  outside = inl refl;
  begins = inr (refl, refl);
  faults_are = refl;
})

-- The header of a table's file, its first record: what its cells name, and its first fault.
-- (xBRL-CSV 1.0, table files: a header cell is the identifier of a column of the table's template,
-- in any order. An empty cell is skipped.)
use Rattle.std.specs.Prelude.{List, [], ◌∷◌, ◌++◌, ℕ, ◌+◌, ◌-◌, ◌^◌, min, Bool, true, false, not, ◌&&◌, ◌==◌, if◌then◌else◌, Option, Some, None, is_none, option_map, map}
use Rattle.std.specs.List.{list_any, position_from}
use Rattle.oim_records.specs.Grids.{Field, Record}
use Rattle.oim_report.specs.Readers.{columns_of, place_of_name, template_of}
use Rattle.oim_report.specs.ReportValue.{ReportValue}
use Rattle.oim_report.specs.declared.data.Column.{Column}
use Rattle.oim_rows.specs.declared.fault.TableFault.{TableFault}
use Rattle.oim_rows.specs.declared.fault.TableKind.{TableKind}
use Rattle.oim_rows.specs.declared.fault.TableKind.TheVariants as kind

-- For each header cell the index of its column in the template. An empty cell has none.
abbrev pub Header : Type 0
Header = List (Option ℕ)

-- A fault of a table at a row and at a place in the header, each from 1, or 0 for none. A place
-- above the greatest 32-bit number is given as that number.
abbrev pub fault_at : ℕ → ℕ → ℕ → TableKind → TableFault
fault_at table row column k = record { table = table; row = row; column = min column (2 ^ 32 - 1); kind = k }

-- A fault of a file as a whole.
abbrev pub file_fault : ℕ → TableKind → TableFault
file_fault table k = record { table = table; row = 0; column = 0; kind = k }

abbrev pub is_empty : Field → Bool
is_empty [] = true
is_empty (b ∷ bs) = false

-- The first of two optional faults.
abbrev pub or_else : {A : Type 0} → Option A → Option A → Option A
or_else None b = b
or_else (Some a) b = Some a

-- The first fault of a list of optional ones.
abbrev pub first_of : {A : Type 0} → List (Option A) → Option A
first_of [] = None
first_of (o ∷ []) = o
first_of (o ∷ p ∷ os) = or_else o (first_of (p ∷ os))

-- The index of the column that a header cell names.
abbrev pub named_column : List Column → Field → Option ℕ
named_column columns f = if is_empty f then None else place_of_name columns f

abbrev pub header_of : List Column → Record → Header
header_of columns r = map (named_column columns) r

-- A cell that is not empty and does not name a column.
abbrev pub is_unknown : List Column → Field → Bool
is_unknown columns f = not (is_empty f) && is_none (place_of_name columns f)

abbrev pub is_column : ℕ → Option ℕ → Bool
is_column c None = false
is_column c (Some d) = c == d

-- Whether a cell's column occurs in `front`, a prefix of the header.
abbrev pub repeats : Header → Option ℕ → Bool
repeats front None = false
repeats front (Some c) = list_any (is_column c) front

-- The first index, from `n` on, of a column that also occurs at an earlier one.
abbrev pub repeat_from : ℕ → Header → Header → Option ℕ
repeat_from n front [] = None
repeat_from n front (o ∷ h) = if repeats front o then Some n else repeat_from (n + 1) (front ++ o ∷ []) h

-- Whether the template's column of row identifiers, if it has one, is in the header.
abbrev pub names_row_id : Option ℕ → Header → Bool
names_row_id None h = true
names_row_id (Some c) h = list_any (is_column c) h

-- The first cell that is not empty and does not name a column.
abbrev pub unknown_fault : ReportValue → ℕ → Record → Option TableFault
unknown_fault report table r = option_map (λ p. fault_at table 0 (p + 1) kind.UnknownHeader) (position_from (is_unknown (columns_of report table)) 0 r)

-- A column that occurs twice.
abbrev pub repeated_fault : ℕ → Header → Option TableFault
repeated_fault table h = option_map (λ p. fault_at table 0 (p + 1) kind.RepeatedHeader) (repeat_from 0 [] h)

-- The column of row identifiers is missing.
abbrev pub row_id_fault : ReportValue → ℕ → Header → Option TableFault
row_id_fault report table h = if names_row_id (template_of report table).row_id_column h then None else Some (file_fault table kind.NoRowIdColumn)

-- The faults of a table's header, in the order of their numbers.
abbrev pub header_faults : ReportValue → ℕ → Record → List (Option TableFault)
header_faults report table r =
    unknown_fault report table r
    ∷ repeated_fault table (header_of (columns_of report table) r)
    ∷ row_id_fault report table (header_of (columns_of report table) r)
    ∷ []

abbrev pub header_fault : ReportValue → ℕ → Record → Option TableFault
header_fault report table r = first_of (header_faults report table r)

-- The first fault of a table's file before its rows.
abbrev pub file_header_fault : ReportValue → ℕ → List Record → Option TableFault
file_header_fault report table [] = Some (file_fault table kind.NoHeader)
file_header_fault report table (r ∷ rows) = header_fault report table r

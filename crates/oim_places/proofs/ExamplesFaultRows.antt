-- Examples of the rules for the file of faults: its header, its records, and what is at the place
-- of a fault.
use Rattle.std.proofs.Common.{◌≡◌, ℕ, List, [], ◌∷◌, ◌++◌, None, Some, refl}
use Rattle.std.specs.Prelude.{codes}
use Rattle.std.specs.Fmt.{digits}
use Rattle.std.specs.Str.{chars, is_utf8}
use lib.Utf8.{encode}
use Rattle.csv.specs.Machine.{next_record}
use Rattle.csv.specs.Reading.{records_from, strip_bom}
use Rattle.csv.specs.Records.{field_at}
use Rattle.csv.specs.Writing.{default_writer, escaped, fields_text, is_blank, row_text}
use Rattle.oim_records.specs.Grids.{records_left}
use Rattle.oim_entries.specs.declared.fault.MetaFault.TheVariants as meta
use Rattle.oim_resolve.specs.declared.fact.CellFault.TheVariants as cell
use Rattle.oim_rows.specs.Header.{fault_at}
use Rattle.oim_rows.specs.declared.fault.TableKind.TheVariants as table
use Rattle.oim_places.specs.Cells.{as_text}
use Rattle.oim_places.specs.FaultPlaces.{stands_at, unknown_place}
use Rattle.oim_places.specs.FaultRows.{fault_fields, fault_names, more_fields, no_cause, report_fault_fields}

abbrev lf : List ℕ
lf = 10 ∷ []

abbrev quote : List ℕ
quote = 34 ∷ []

-- ---- the text of the file

header : row_text default_writer fault_names ≡ codes "table_id,table_row,table_column,fault_number,fault_name,line,header_cell,row_cell,place,cause_file,cause_line,cause_cell,cause_text" ++ lf
unfolding is_blank fields_text escaped
header = refl

-- The third line of a file: the second row, whose first cell is not a number.
plain_record : row_text default_writer
    (fault_fields (codes "t1") (fault_at 0 2 1 (table.Cell cell.BadNumber)) (record { line = Some 3; header = codes "cash"; cell = codes "1x0" }) no_cause)
    ≡ codes "t1,2,1,40,BadNumber,3,cash,1x0,,,,," ++ lf
unfolding is_blank fields_text escaped digits
plain_record = refl

-- A file that is not there.
nothing_known : row_text default_writer (fault_fields (codes "t1") (fault_at 0 0 0 table.NoFile) unknown_place no_cause) ≡ codes "t1,0,0,20,NoFile,,,,,,,," ++ lf
unfolding is_blank fields_text escaped digits
nothing_known = refl

-- RFC 4180, section 2: a comma, a line feed and a quote call for quotes.
quoted_fields : row_text default_writer
    (fault_fields (codes "t1") (fault_at 0 2 1 (table.Cell cell.BadNumber)) (record { line = Some 3; header = codes "a" ++ lf; cell = codes "1," ++ quote ++ codes "2" }) no_cause)
    ≡ codes "t1,2,1,40,BadNumber,3," ++ quote ++ codes "a" ++ lf ++ quote ++ codes "," ++ quote ++ codes "1," ++ quote ++ quote ++ codes "2" ++ quote ++ codes ",,,,," ++ lf
unfolding is_blank fields_text escaped digits
quoted_fields = refl

-- A blank and a backslash do not.
plain_fields : row_text default_writer (fault_fields (codes "t1") (fault_at 0 1 1 table.BadRowId) (record { line = Some 2; header = codes "k"; cell = codes " a\\b " }) no_cause)
    ≡ codes "t1,1,1,29,BadRowId,2,k, a\\b ,,,,," ++ lf
unfolding is_blank fields_text escaped digits
plain_fields = refl

-- A parameter that is not a period, in the third line of the parameters file.
of_a_parameter : row_text default_writer
    (fault_fields (codes "t1") (fault_at 0 2 1 (table.Cell cell.BadPeriod)) (record { line = Some 3; header = codes "cash"; cell = codes "10" })
    (record { file = codes "p.csv"; line = Some 3; cell = codes "2"; text = codes "30.09.2025" }))
    ≡ codes "t1,2,1,37,BadPeriod,3,cash,10,,p.csv,3,2,30.09.2025" ++ lf
unfolding is_blank fields_text escaped digits
of_a_parameter = refl

-- A property of the metadata has no line. Its text is JSON.
of_a_property : row_text default_writer
    (fault_fields (codes "t1") (fault_at 0 1 2 (table.Cell cell.BadValue)) (record { line = Some 2; header = codes "note"; cell = codes "x" })
    (record { file = codes "m.json"; line = None; cell = codes "/dimensions/unit"; text = quote ++ codes "EUR" ++ quote }))
    ≡ codes "t1,1,2,36,BadValue,2,note,x,,m.json,,/dimensions/unit," ++ quote ++ quote ++ quote ++ codes "EUR" ++ quote ++ quote ++ quote ++ lf
unfolding is_blank fields_text escaped digits
of_a_property = refl

-- The record that a table has more faults.
more_faults : row_text default_writer (more_fields (codes "t1")) ≡ codes "t1,0,0,0,MoreFaults,,,,,,,," ++ lf
unfolding is_blank fields_text escaped digits
more_faults = refl

-- A dimension of the metadata that the types table does not have. Its place is a JSON pointer, and
-- what is there is JSON.
of_the_metadata : row_text default_writer (report_fault_fields meta.BadDimension (codes "/dimensions/eg:Regoin") (quote ++ codes "eg:North" ++ quote))
    ≡ codes ",0,0,11,BadDimension,,," ++ quote ++ quote ++ quote ++ codes "eg:North" ++ quote ++ quote ++ quote ++ codes ",/dimensions/eg:Regoin,,,," ++ lf
unfolding is_blank fields_text escaped digits
of_the_metadata = refl

-- A record of the types table.
of_the_types : row_text default_writer (report_fault_fields meta.BadTypes (codes "t.csv, line 2, cell 3") (codes "integr"))
    ≡ codes ",0,0,14,BadTypes,,,integr," ++ quote ++ codes "t.csv, line 2, cell 3" ++ quote ++ codes ",,,," ++ lf
unfolding is_blank fields_text escaped digits
of_the_types = refl

-- ---- what is at a place

-- é in Latin 1, a control character, a letter.
no_utf8 : as_text (233 ∷ 1 ∷ 122 ∷ []) ≡ codes "\\xe9\\x01z"
unfolding is_utf8 chars encode
no_utf8 = refl

-- é in UTF-8 and a control character.
utf8 : as_text (195 ∷ 169 ∷ 1 ∷ []) ≡ 195 ∷ 169 ∷ 1 ∷ []
unfolding is_utf8 chars encode
utf8 = refl

-- A header, an empty line and two records.
abbrev file : List ℕ
file = codes "a,b" ++ lf ++ lf ++ codes "1,2" ++ lf ++ codes "3,4"

second_row : stands_at file 2 1 ≡ record { line = Some 4; header = codes "a"; cell = codes "3" }
unfolding records_left records_from strip_bom next_record is_utf8 chars encode field_at
second_row = refl

-- A fault of the header: no row has a cell there.
of_the_header : stands_at file 0 2 ≡ record { line = Some 1; header = codes "b"; cell = [] }
unfolding records_left records_from strip_bom next_record is_utf8 chars encode field_at
of_the_header = refl

-- A fault of a whole row.
of_a_row : stands_at file 1 0 ≡ record { line = Some 3; header = []; cell = [] }
unfolding records_left records_from strip_bom next_record is_utf8 chars encode field_at
of_a_row = refl

-- Worked cases of the definitions (xBRL-CSV 1.0, table files).
use Rattle.std.proofs.Common.{◌≡◌, ◌++◌, ◌∷◌, [], ap, arith, ℕ, List, Some, None, Ok, Err, Bool, true, false, codes, map, refl}
use Rattle.std.proofs.lemmas.Fmt.{decimal_digit}
use Rattle.oim_report.specs.Readers.{holds_facts, no_level}
use Rattle.oim_report.specs.ReportValue.{ReportValue}
use Rattle.oim_report.specs.declared.data.Column.{Column}
use Rattle.oim_report.specs.declared.data.ColumnKind.TheVariants as content
use Rattle.std.specs.Str.{chars, is_utf8}
use Rattle.csv.specs.Machine.{next_record}
use Rattle.csv.specs.Reading.{records_from, strip_bom}
use Rattle.csv.specs.Records.{field_at}
use Rattle.oim_names.specs.Names.{is_ncname, is_name_char, is_name_start, is_plain_char, is_row_identifier}
use Rattle.oim_names.specs.QName.{qname_of}
use Rattle.oim_cells.specs.Cells.{meaning_of}
use Rattle.oim_records.specs.Grids.{Record, records_left}
use Rattle.oim_report.specs.declared.data.Written.TheVariants as written
use Rattle.oim_report.specs.declared.kind.Kind.TheVariants as type
use Rattle.oim_resolve.specs.Facts.{cell_result, early_result, fact_of, rest_faults}
use Rattle.oim_resolve.specs.FactParts.{FactParts as Fact}
use Rattle.oim_resolve.specs.declared.fact.CellFault.TheVariants as cell
use Rattle.oim_resolve.specs.declared.fact.Row.{Row}
use Rattle.oim_rows.specs.FaultNames.{name_of, number_of}
use Rattle.oim_records.specs.declared.read_fault.ReadFault.TheVariants as read
use Rattle.oim_rows.specs.Header.{fault_at, file_fault, file_header_fault, header_fault, header_of, is_column, names_row_id}
use Rattle.oim_rows.specs.Identifiers.{facts_of_tables}
use Rattle.oim_rows.specs.state.Progressing.{left_of}
use Rattle.oim_rows.specs.RowFacts.{TableHeaderValue, cell_at, fact_at, facts_from, id_kind, is_fact_column, row_fault, row_id_text, row_result, source_of_column}
use Rattle.oim_rows.specs.state.RowFacts.{early_fact_at}
use Rattle.oim_rows.specs.Streams.{answer_of, ending, facts_of, fault_of_read, kept_answer, stream_from, stream_of, table_stream}
use Rattle.oim_rows.specs.state.Streams.{early_header_fault, early_row_answer, row_answer}
use Rattle.oim_rows.specs.WholeTable.{ids_of, row_after, row_at}
use Rattle.oim_rows.specs.declared.fault.TableKind.TheVariants as kind

abbrev columns : List Column
columns =
    record { id = codes "cash"; kind = content.Fact; level = record { dimensions = (codes "concept", written.Text (codes "eg:Note")) ∷ []; decimals = None }; groups = []; from = [] }
    ∷ record { id = codes "k"; kind = content.Plain; level = no_level; groups = []; from = [] } ∷ []

-- A report of one table with these two columns, a text and the row identifier.
abbrev report : Bool → ReportValue
report optional = record {
  info = record { base_url = None; taxonomy = [] };
  namespaces = (codes "eg", codes "http://example.com/eg") ∷ [];
  types = record { uri = codes "http://example.com/eg"; local = codes "Note"; kind = type.Text } ∷ [];
  level = no_level;
  templates = record { id = codes "m"; columns = columns; row_id_column = Some 1; level = no_level } ∷ [];
  tables = record { id = codes "t1"; url = codes "t1.csv"; is_optional = optional; template = 0; parameters = [] } ∷ [];
  parameters = [];
}

columns_in_any_order : header_of columns (codes "k" ∷ [] ∷ codes "cash" ∷ []) ≡ Some 1 ∷ None ∷ Some 0 ∷ []
columns_in_any_order = refl

unknown_header : header_fault (report false) 0 (codes "cash" ∷ codes "cash" ∷ codes "nope" ∷ []) ≡ Some (fault_at 0 0 3 kind.UnknownHeader)
unknown_header = refl

repeated_header : header_fault (report false) 0 (codes "cash" ∷ [] ∷ [] ∷ codes "cash" ∷ []) ≡ Some (fault_at 0 0 4 kind.RepeatedHeader)
repeated_header = refl

no_row_id_column : header_fault (report false) 0 (codes "cash" ∷ []) ≡ Some (file_fault 0 kind.NoRowIdColumn)
no_row_id_column = refl

no_header : stream_of (report false) 0 9 [] ≡ ending (Some (file_fault 0 kind.NoHeader))
no_header = refl

no_file : table_stream (report false) 0 9 None ≡ ending (Some (file_fault 0 kind.NoFile))
no_file = refl

no_optional_file : table_stream (report true) 0 9 None ≡ ending None
no_optional_file = refl

abbrev reading : TableHeaderValue
reading = record { report = report false; table = 0; limit = 1; columns = Some 0 ∷ Some 1 ∷ [] }

ragged : row_fault reading 5 [] ([] ∷ []) ≡ Some (fault_at 0 5 0 kind.Ragged)
ragged = refl

missing_row_id : id_kind [] [] ≡ Some kind.MissingRowId
missing_row_id = refl

omitted_column : cell_at (Some 0 ∷ []) (codes "7" ∷ []) 1 ≡ []
omitted_column = refl

numbered_row : row_id_text None 7 [] ≡ codes "r_7"
numbered_row = ap (λ (t : List ℕ). codes "r_" ++ t) (decimal_digit 7 (omega arith))

great_place : fault_at 0 1 5000000000 kind.NotUtf8 ≡ fault_at 0 1 4294967295 kind.NotUtf8
great_place = refl

-- ROWS: the first fault of a row, in the order 26, 27, 41, 28, 29, 30, then its cells.
abbrev line : List ℕ → List ℕ → Record
line cash k = cash ∷ k ∷ []

abbrev bytes : ℕ → List ℕ
bytes b = b ∷ []

row_fault_order : row_fault reading 2 [] (bytes 255 ∷ []) ∷ row_fault reading 2 [] (line (codes "x") (bytes 255)) ∷ row_fault reading 2 [] (line (codes "x") []) ∷ []
    ≡ Some (fault_at 0 2 0 kind.Ragged) ∷ Some (fault_at 0 2 2 kind.NotUtf8) ∷ Some (fault_at 0 2 0 kind.TooManyRows) ∷ []
unfolding stream_from cell_result rest_faults fact_of meaning_of chars is_row_identifier is_plain_char is_ncname is_name_char is_name_start qname_of field_at is_utf8 lib.Utf8.encode
row_fault_order = refl

row_id_faults : row_fault reading 1 (codes "a" ∷ codes "b" ∷ []) (line (codes "x") []) ∷ row_fault reading 1 (codes "a b" ∷ []) (line (codes "x") (codes "a b"))
    ∷ row_fault reading 1 (codes "a" ∷ codes "b" ∷ []) (line (codes "x") (codes "a")) ∷ row_fault reading 1 (codes "a" ∷ codes "b" ∷ []) (line (codes "x") (codes "c")) ∷ []
    ≡ Some (fault_at 0 1 2 kind.MissingRowId) ∷ Some (fault_at 0 1 2 kind.BadRowId) ∷ Some (fault_at 0 1 2 kind.RepeatedRowId) ∷ None ∷ []
unfolding stream_from cell_result rest_faults fact_of meaning_of chars is_row_identifier is_plain_char is_ncname is_name_char is_name_start qname_of field_at is_utf8 lib.Utf8.encode
row_id_faults = refl

abbrev note : List ℕ → List ℕ → Fact
note id text = record { id = codes "t1." ++ id ++ codes ".cash"; value = Some text; decimals = None; dimensions = (codes "concept", Some (codes "eg:Note")) ∷ [] }

row_results : row_result reading 1 [] (line (codes "x") (codes "a")) ∷ row_result reading 1 [] (line [] (codes "a")) ∷ row_result reading 1 [] (line (codes "#foo") (codes "a"))
    ∷ row_result reading 1 [] (line (codes "#foo") []) ∷ []
    ≡ Ok (note (codes "a") (codes "x") ∷ []) ∷ Ok [] ∷ Err (fault_at 0 1 1 (kind.Cell cell.UnknownSpecial)) ∷ Err (fault_at 0 1 2 kind.MissingRowId) ∷ []
unfolding stream_from cell_result rest_faults fact_of meaning_of chars is_row_identifier is_plain_char is_ncname is_name_char is_name_start qname_of field_at is_utf8 lib.Utf8.encode
row_results = refl

-- STREAMS
abbrev file : List Record → List Record
file rows = line (codes "cash") (codes "k") ∷ rows

whole_stream : stream_of (report false) 0 2 (file (line (codes "x") (codes "a") ∷ line [] (codes "b") ∷ []))
    ≡ record { rows = (note (codes "a") (codes "x") ∷ []) ∷ [] ∷ []; fault = None }
unfolding stream_from cell_result rest_faults fact_of meaning_of chars is_row_identifier is_plain_char is_ncname is_name_char is_name_start qname_of field_at is_utf8 lib.Utf8.encode
whole_stream = refl

stream_to_a_repeated_id : stream_of (report false) 0 9 (file (line (codes "x") (codes "a") ∷ line (codes "y") (codes "a") ∷ line (codes "z") (codes "b") ∷ []))
    ≡ record { rows = (note (codes "a") (codes "x") ∷ []) ∷ []; fault = Some (fault_at 0 2 2 kind.RepeatedRowId) }
unfolding stream_from cell_result rest_faults fact_of meaning_of chars is_row_identifier is_plain_char is_ncname is_name_char is_name_start qname_of field_at is_utf8 lib.Utf8.encode
stream_to_a_repeated_id = refl

stream_to_the_limit : stream_of (report false) 0 1 (file (line (codes "x") (codes "a") ∷ line (codes "y") (codes "b") ∷ []))
    ≡ record { rows = (note (codes "a") (codes "x") ∷ []) ∷ []; fault = Some (fault_at 0 2 0 kind.TooManyRows) }
unfolding stream_from cell_result rest_faults fact_of meaning_of chars is_row_identifier is_plain_char is_ncname is_name_char is_name_start qname_of field_at is_utf8 lib.Utf8.encode
stream_to_the_limit = refl

-- THE FAULTS by number and name, where a cell's fault has its own, and the places of a fault.
fault_numbers :
    map number_of
    (kind.NoFile ∷ kind.Read ∷ kind.NoHeader ∷ kind.UnknownHeader ∷ kind.RepeatedHeader ∷ kind.NoRowIdColumn ∷ kind.Ragged ∷ kind.NotUtf8 ∷ kind.MissingRowId ∷ kind.BadRowId
    ∷ kind.RepeatedRowId ∷ kind.TooManyRows ∷ kind.Memory ∷ kind.NoThread ∷ [])
    ≡ 20 ∷ 21 ∷ 22 ∷ 23 ∷ 24 ∷ 25 ∷ 26 ∷ 27 ∷ 28 ∷ 29 ∷ 30 ∷ 41 ∷ 42 ∷ 43 ∷ []
fault_numbers = refl

fault_names :
    map name_of
    (kind.NoFile ∷ kind.Read ∷ kind.NoHeader ∷ kind.UnknownHeader ∷ kind.RepeatedHeader ∷ kind.NoRowIdColumn ∷ kind.Ragged ∷ kind.NotUtf8 ∷ kind.MissingRowId ∷ kind.BadRowId
    ∷ kind.RepeatedRowId ∷ kind.TooManyRows ∷ kind.Memory ∷ kind.NoThread ∷ [])
    ≡ codes "NoFile" ∷ codes "Read" ∷ codes "NoHeader" ∷ codes "UnknownHeader" ∷ codes "RepeatedHeader" ∷ codes "NoRowIdColumn" ∷ codes "Ragged" ∷ codes "NotUtf8"
    ∷ codes "MissingRowId" ∷ codes "BadRowId" ∷ codes "RepeatedRowId" ∷ codes "TooManyRows" ∷ codes "Memory" ∷ codes "NoThread" ∷ []
fault_names = refl

cell_faults : (map number_of (kind.Cell cell.UnknownSpecial ∷ kind.Cell cell.BadFactValue ∷ []) ≡ 31 ∷ 44 ∷ []) × (name_of (kind.Cell cell.BadFactValue) ≡ codes "BadFactValue")
cell_faults = (refl, refl)

fault_of_a_file : file_fault 3 kind.NoFile ≡ record { table = 3; row = 0; column = 0; kind = kind.NoFile }
fault_of_a_file = refl

last_place : fault_at 3 2 4_294_967_296 kind.BadRowId ≡ record { table = 3; row = 2; column = 4_294_967_295; kind = kind.BadRowId }
last_place = refl

-- HEADERS AND COLUMNS: an empty header cell names nothing, a template may have no column of row
-- identifiers, and only a column of facts holds facts.
places_of_columns : (source_of_column (None ∷ Some 0 ∷ []) 0 ≡ Some 1) × (is_column 0 None ≡ false) × (names_row_id None [] ≡ true) × (names_row_id (Some 1) (Some 0 ∷ []) ≡ false)
places_of_columns = (refl, refl, refl, refl)

empty_file : file_header_fault (report false) 0 [] ≡ Some (file_fault 0 kind.NoHeader)
empty_file = refl

columns_of_facts : map holds_facts (content.Fact ∷ content.Groups ∷ content.Comment ∷ content.Plain ∷ []) ≡ true ∷ false ∷ false ∷ false ∷ []
columns_of_facts = refl

past_the_columns : is_fact_column columns 2 ≡ false
past_the_columns = refl

-- The fault of a cell is at its place in the header, from 1: here after an empty header cell.
place_of_a_cell : facts_from (report false) 0 (record { number = 4; id = codes "a"; cells = codes "#foo" ∷ codes "a" ∷ [] }) 0 (None ∷ Some 1 ∷ Some 0
    ∷ []) ≡ Err (fault_at 0 4 3 (kind.Cell cell.UnknownSpecial))
unfolding cell_result rest_faults fact_of meaning_of chars
place_of_a_cell = refl

-- What the first two steps of a cell settle, here of row 4 under an empty header cell, then k and
-- cash: no fact if the column holds no facts or the cell is absent, else the fault at its place in
-- the header. If a cell passes these steps, they settle nothing, whatever its third step gives.
abbrev cell_four : List ℕ → Row
cell_four cash = record { number = 4; id = codes "a"; cells = cash ∷ codes "#foo" ∷ [] }

early_without_a_fact : early_fact_at (report false) 0 (cell_four (codes "x")) 0 None ∷ early_fact_at (report false) 0 (cell_four (codes "x")) 1 (Some 1)
    ∷ early_fact_at (report false) 0 (cell_four []) 2 (Some 0) ∷ []
    ≡ Some (Ok None) ∷ Some (Ok None) ∷ Some (Ok None) ∷ []
unfolding early_result meaning_of chars
early_without_a_fact = refl

early_fault : early_fact_at (report false) 0 (cell_four (codes "#foo")) 2 (Some 0) ≡ Some (Err (fault_at 0 4 3 (kind.Cell cell.UnknownSpecial)))
unfolding early_result meaning_of chars
early_fault = refl

-- The column states no concept.
abbrev no_concept : ReportValue
no_concept = record (report false) {
  templates = record { id = codes "m"; columns = record { id = codes "cash"; kind = content.Fact; level = no_level; groups = []; from = [] } ∷ []; row_id_column = None; level = no_level } ∷ [];
}

early_fault_of_a_concept : early_fact_at no_concept 0 (cell_four (codes "x")) 0 (Some 0) ≡ Some (Err (fault_at 0 4 1 (kind.Cell cell.NoConcept)))
unfolding early_result meaning_of chars
early_fault_of_a_concept = refl

late_fact : (early_fact_at (report false) 0 (cell_four (codes "x")) 2 (Some 0) ≡ None) × (fact_at (report false) 0 (cell_four (codes "x")) 2 (Some 0) ≡ Ok (Some (note (codes "a") (codes "x"))))
unfolding early_result cell_result rest_faults fact_of meaning_of chars is_ncname is_name_char is_name_start qname_of is_utf8 lib.Utf8.encode
late_fact = (refl, refl)

-- What a failed reader gives, and a result that takes no memory.
faults_of_reads : (fault_of_read 2 read.Read ≡ file_fault 2 kind.Read) × (fault_of_read 2 read.Memory ≡ file_fault 2 kind.Memory)
faults_of_reads = (refl, refl)

early_header : early_header_fault (report false) 0 (Ok false) [] ∷ early_header_fault (report false) 0 (Err read.Read) [] ∷ early_header_fault (report false) 0 (Ok true) (codes "cash" ∷ []) ∷ []
    ≡ Some (file_fault 0 kind.NoHeader) ∷ Some (file_fault 0 kind.Read) ∷ None ∷ []
early_header = refl

early_rows : early_row_answer reading 1 [] (Ok false) [] ∷ early_row_answer reading 1 [] (Err read.Memory) [] ∷ early_row_answer reading 1 [] (Ok true) [] ∷ []
    ≡ Some (Ok None) ∷ Some (Err (file_fault 0 kind.Memory)) ∷ Some (Err (fault_at 0 1 0 kind.Ragged)) ∷ []
early_rows = refl

-- ALL ROWS AT ONCE: rows are counted from 1, and a row follows the identifiers of those before it.
rows_by_place : (row_at (codes "ab") 0 ≡ Some 97) × (row_at (codes "ab") 1 ≡ Some 98) × (row_at (codes "a") 1 ≡ None)
rows_by_place = (refl, refl, refl)

identifiers_of_rows : (ids_of (Some 1) (line (codes "x") (codes "a") ∷ line [] (codes "b") ∷ []) ≡ codes "a" ∷ codes "b" ∷ []) × (ids_of None (line (codes "x") (codes "a") ∷ []) ≡ [])
unfolding field_at
identifiers_of_rows = (refl, refl)

second_row : row_after reading (line (codes "x") (codes "a") ∷ []) (line (codes "y") (codes "b")) ≡ Err (fault_at 0 2 0 kind.TooManyRows)
unfolding stream_from cell_result rest_faults fact_of meaning_of chars is_row_identifier is_plain_char is_ncname is_name_char is_name_start qname_of field_at is_utf8 lib.Utf8.encode
second_row = refl

-- A table without a file has no facts, and its index is counted.
facts_of_two_tables : facts_of_tables (report true) 9 0 (None ∷ []) ≡ []
facts_of_two_tables = refl

facts_of_a_stream : facts_of (record { rows = (note (codes "a") (codes "x") ∷ []) ∷ [] ∷ (note (codes "b") (codes "y") ∷ []) ∷ []; fault = None })
    ≡ note (codes "a") (codes "x") ∷ note (codes "b") (codes "y") ∷ []
facts_of_a_stream = refl

-- Two tables with files, each with its own header: the facts of both, each under its table's
-- identifier.
abbrev two : ReportValue
two = record (report false) {
  tables = record { id = codes "t1"; url = codes "t1.csv"; is_optional = false; template = 0; parameters = [] }
      ∷ record { id = codes "t2"; url = codes "t2.csv"; is_optional = false; template = 0; parameters = [] } ∷ [];
}

facts_of_two_files : map (λ (f : Fact). f.id) (facts_of_tables two 9 0 (Some (codes "cash,k\nx,a") ∷ Some (codes "k,cash\na,y\nb,z\n") ∷ []))
    ≡ codes "t1.a.cash" ∷ codes "t2.a.cash" ∷ codes "t2.b.cash" ∷ []
unfolding stream_from cell_result rest_faults fact_of meaning_of chars is_row_identifier is_plain_char is_ncname is_name_char is_name_start qname_of field_at is_utf8 lib.Utf8.encode
    records_left records_from strip_bom next_record
facts_of_two_files = refl

-- RESULTS: after a row the rest is left. After the end or a fault the same result is repeated.
answers_of_rows : (row_answer (Ok []) ≡ Ok (Some [])) × (row_answer (Err (file_fault 0 kind.Read)) ≡ Err (file_fault 0 kind.Read))
answers_of_rows = (refl, refl)

kept_answers : (kept_answer (Ok (Some [])) ≡ None) × (kept_answer (Ok None) ≡ Some None) × (kept_answer (Err (file_fault 0 kind.Read)) ≡ Some (Some (file_fault 0 kind.Read)))
kept_answers = (refl, refl, refl)

answers_again : (answer_of {A = List Fact} None ≡ Ok None) × (answer_of {A = List Fact} (Some (file_fault 0 kind.Read)) ≡ Err (file_fault 0 kind.Read))
answers_again = (refl, refl)

rows_left : (left_of None reading 1 [] (Some []) ≡ Some (ending None)) × (left_of None reading 1 [] None ≡ None) × (left_of (Some None) reading 1 [] (Some []) ≡ None)
unfolding stream_from
rows_left = (refl, refl, refl)

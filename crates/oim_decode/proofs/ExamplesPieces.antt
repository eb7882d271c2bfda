-- Examples of the rules for pieces of a table (`specs/Apart.antt`, `specs/Pieces.antt`).
use Rattle.std.proofs.Common.{◌≡◌, ◌++◌, ◌∷◌, [], ℕ, List, Some, None, Ok, Err, false, true, codes, refl, inl, inr}
use Rattle.std.specs.Str.{chars, is_utf8}
use Rattle.csv.specs.Records.{field_at}
use Rattle.oim_names.specs.Names.{is_ncname, is_name_char, is_name_start, is_plain_char, is_row_identifier}
use Rattle.oim_names.specs.QName.{qname_of}
use Rattle.oim_cells.specs.Cells.{meaning_of}
use Rattle.oim_records.specs.Cuts.{state_after}
use Rattle.oim_records.specs.Grids.{Record}
use Rattle.oim_report.specs.Readers.{no_level}
use Rattle.oim_report.specs.ReportValue.{ReportValue}
use Rattle.oim_report.specs.declared.data.ColumnKind.TheVariants as content
use Rattle.oim_report.specs.declared.data.Written.TheVariants as written
use Rattle.oim_report.specs.declared.kind.Kind.TheVariants as type
use Rattle.oim_resolve.specs.Facts.{cell_result, fact_of, rest_faults}
use Rattle.oim_resolve.specs.FactParts.{FactParts as Fact}
use Rattle.oim_resolve.specs.declared.fact.CellFault.TheVariants as cell
use Rattle.oim_decode.specs.Apart.{Apart, apart_from, apart_row, cut_at, id_in, joined_piece, repeated_from, repeated_id}
use Rattle.oim_rows.specs.Header.{fault_at, file_fault}
use Rattle.oim_decode.specs.PieceAnswers.{IsJoined, apart_then, fault_or_next, refused}
use Rattle.oim_decode.specs.state.PieceAnswers.{AddsApart, EndsRows, StepsRow, TakesRow, no_rows}
use Rattle.oim_decode.specs.state.RowEnds.{counts_from, stretches}
use Rattle.oim_decode.specs.state.RowTexts.{AddsRowFacts}
use Rattle.oim_decode.specs.Pieces.{AreCut, EndsBetween, pieces_from, records_of, stream_then, stream_until}
use Rattle.oim_rows.specs.RowFacts.{TableHeaderValue}
use Rattle.oim_rows.specs.Streams.{Stream, ending}
use Rattle.oim_rows.specs.declared.fault.TableKind.TheVariants as kind

-- A report of one table with a column of facts and one of row identifiers.
abbrev report : ReportValue
report = record {
  info = record { base_url = None; taxonomy = [] };
  namespaces = (codes "eg", codes "http://example.com/eg") ∷ [];
  types = record { uri = codes "http://example.com/eg"; local = codes "Note"; kind = type.Text } ∷ [];
  level = no_level;
  templates = record {
    id = codes "m";
    columns = record { id = codes "cash"; kind = content.Fact; level = record { dimensions = (codes "concept", written.Text (codes "eg:Note")) ∷ []; decimals = None }; groups = []; from = [] }
        ∷ record { id = codes "k"; kind = content.Plain; level = no_level; groups = []; from = [] } ∷ [];
    row_id_column = Some 1;
    level = no_level;
  } ∷ [];
  tables = record { id = codes "t1"; url = codes "t1.csv"; is_optional = true; template = 0; parameters = [] } ∷ [];
  parameters = [];
}

abbrev header : TableHeaderValue
header = record { report = report; table = 0; limit = 9; columns = Some 0 ∷ Some 1 ∷ [] }

abbrev line : List ℕ → List ℕ → Record
line cash k = cash ∷ k ∷ []

abbrev note : List ℕ → List ℕ → Fact
note id text = record { id = codes "t1." ++ id ++ codes ".cash"; value = Some text; decimals = None; dimensions = (codes "concept", Some (codes "eg:Note")) ∷ [] }

identifier_of_a_row : (id_in (Some 1) (line (codes "x") (codes "a")) ≡ codes "a" ∷ []) × (id_in None (line (codes "x") (codes "a")) ≡ [])
unfolding field_at
identifier_of_a_row = (refl, refl)

-- A PIECE WITHOUT THE OTHERS (`apart_from`). An identifier may occur twice in it.
abbrev twice : List Record
twice = line (codes "x") (codes "a") ∷ line (codes "y") (codes "a") ∷ []

abbrev both : Apart
both = record { rows = (note (codes "a") (codes "x") ∷ []) ∷ (note (codes "a") (codes "y") ∷ []) ∷ []; ids = codes "a" ∷ codes "a" ∷ []; fault = None }

piece_by_itself : apart_from header 1 twice ≡ both
unfolding apart_from cell_result rest_faults fact_of meaning_of chars is_row_identifier is_plain_char is_ncname is_name_char is_name_start qname_of field_at is_utf8 lib.Utf8.encode
piece_by_itself = refl

-- A row with a fault in its cells still gives its identifier; a row without an identifier does not.
bad_cell : apart_from header 4 (line (codes "x") (codes "a") ∷ line (codes "#foo") (codes "b") ∷ line (codes "z") (codes "c") ∷ [])
    ≡ record { rows = (note (codes "a") (codes "x") ∷ []) ∷ []; ids = codes "a" ∷ codes "b" ∷ []; fault = Some (fault_at 0 5 1 (kind.Cell cell.UnknownSpecial)) }
unfolding apart_from cell_result rest_faults fact_of meaning_of chars is_row_identifier is_plain_char is_ncname is_name_char is_name_start qname_of field_at is_utf8 lib.Utf8.encode
bad_cell = refl

no_identifier : apart_from header 4 (line (codes "x") (codes "a") ∷ line (codes "y") [] ∷ []) ≡ record { rows = (note (codes "a") (codes "x") ∷ []) ∷ []; ids = codes "a" ∷ []; fault = Some (fault_at 0 5 2 kind.MissingRowId) }
unfolding apart_from cell_result rest_faults fact_of meaning_of chars is_row_identifier is_plain_char is_ncname is_name_char is_name_start qname_of field_at is_utf8 lib.Utf8.encode
no_identifier = refl

shapes : (apart_row (Some (fault_at 0 1 0 kind.Ragged)) (Ok []) (codes "a" ∷ []) both ≡ record { rows = []; ids = []; fault = Some (fault_at 0 1 0 kind.Ragged) })
    × (apart_row None (Ok []) [] (record { rows = []; ids = []; fault = None }) ≡ record { rows = [] ∷ []; ids = []; fault = None })
shapes = (refl, refl)

-- JOINED (`repeated_from`). An identifier that repeats one of the piece or an earlier one ends the
-- table at its row.
came_before : (repeated_from 0 [] (codes "a" ∷ codes "b" ∷ codes "a" ∷ []) ≡ Some 2) × (repeated_from 0 (codes "b" ∷ []) (codes "a" ∷ codes "b" ∷ []) ≡ Some 1)
    × (repeated_from 0 (codes "b" ∷ []) (codes "a" ∷ codes "c" ∷ []) ≡ None)
came_before = (refl, refl, refl)

repeated_row : repeated_id header 7 ≡ fault_at 0 7 2 kind.RepeatedRowId
repeated_row = refl

within_a_piece : joined_piece header 1 [] both ≡ record { rows = (note (codes "a") (codes "x") ∷ []) ∷ []; fault = Some (fault_at 0 2 2 kind.RepeatedRowId) }
within_a_piece = refl

across_pieces : joined_piece header 5 (codes "a" ∷ []) (record { rows = [] ∷ []; ids = codes "a" ∷ []; fault = None }) ≡ ending (Some (fault_at 0 5 2 kind.RepeatedRowId))
across_pieces = refl

-- The repeated identifier counts before the fault of the row's cells, and before that of a later
-- row.
before_the_cells : joined_piece header 5 (codes "a" ∷ []) (record { rows = []; ids = codes "a" ∷ []; fault = Some (fault_at 0 5 1 (kind.Cell cell.BadNumber)) }) ≡ ending (Some (fault_at 0 5 2 kind.RepeatedRowId))
before_the_cells = refl

no_repetition : joined_piece header 5 (codes "b" ∷ []) both ≡ cut_at header 5 (Some 1) both
no_repetition = refl

-- ONE AFTER THE OTHER (`stream_then`). NoFacts follows a fault.
abbrev one : Stream
one = record { rows = [] ∷ []; fault = None }

behind_a_fault : (stream_then (ending (Some (fault_at 0 5 0 kind.Ragged))) one ≡ ending (Some (fault_at 0 5 0 kind.Ragged))) × (stream_then one one ≡ record { rows = [] ∷ [] ∷ []; fault = None })
    × (stream_until None one (ending (Some (fault_at 0 5 0 kind.Ragged))) ≡ record { rows = [] ∷ []; fault = Some (fault_at 0 5 0 kind.Ragged) })
behind_a_fault = (refl, refl, refl)

in_two_pieces : pieces_from header 1 [] ((line [] (codes "a") ∷ []) ∷ (line [] (codes "b") ∷ line [] (codes "a") ∷ []) ∷ [])
    ≡ record { rows = [] ∷ [] ∷ []; fault = Some (fault_at 0 3 2 kind.RepeatedRowId) }
unfolding pieces_from apart_from cell_result rest_faults fact_of meaning_of chars is_row_identifier is_plain_char is_ncname is_name_char is_name_start qname_of field_at is_utf8 lib.Utf8.encode
in_two_pieces = refl

records_in_order : records_of ((line [] [] ∷ []) ∷ [] ∷ (line (codes "x") [] ∷ []) ∷ []) ≡ line [] [] ∷ line (codes "x") [] ∷ []
records_in_order = refl

-- CUTS (`AreCut`). A piece may end after a line's end but not inside a field. The last piece may
-- end anywhere.
cut_behind_lines : AreCut (codes "k\n" ∷ codes "a" ∷ [])
unfolding AreCut state_after
cut_behind_lines = (refl, (tt, tt))

not_in_a_field : EndsBetween (codes "b" ∷ []) (codes "a") → ⊥
unfolding state_after
not_in_a_field h = cc h

-- ANSWERS (`apart_then`). Rows after rows. Running out of memory leaves the rows before.
abbrev first : Apart
first = record { rows = [] ∷ []; ids = codes "a" ∷ []; fault = None }

rows_behind_rows : (apart_then first first ≡ record { rows = [] ∷ [] ∷ []; ids = codes "a" ∷ codes "a" ∷ []; fault = None }) × (apart_then first no_rows ≡ first)
    × (apart_then first (refused 0) ≡ record { rows = [] ∷ []; ids = codes "a" ∷ []; fault = Some (file_fault 0 kind.Memory) })
rows_behind_rows = (refl, refl, refl)

one_added : AddsApart 0 first first (apart_then first first)
one_added = inl refl

none_added : AddsApart 0 first first (apart_then first (refused 0))
none_added = inr refl

-- `AddsRowFacts`: one more row adds its facts, even if it has none. A row with a fault adds
-- nothing.
facts_added : AddsRowFacts 0 (Ok []) ([] ∷ []) ([] ∷ [] ∷ []) (Ok tt)
facts_added = (refl, refl)

facts_refused : AddsRowFacts 0 (Err (fault_at 0 1 1 (kind.Cell cell.BadNumber))) ([] ∷ []) ([] ∷ []) (Err (fault_at 0 1 1 (kind.Cell cell.BadNumber)))
facts_refused = (refl, inr refl)

-- `TakesRow`: no row is taken if none is left, and the piece ends.
no_row_taken : TakesRow header 1 [] no_rows [] no_rows → ⊥
no_row_taken h = h

piece_ends : (StepsRow header 1 [] first false [] first) × EndsRows header 1 [] first first
unfolding apart_from
piece_ends = (inl refl, inl refl)

joined_or_refused : IsJoined header 5 (codes "a" ∷ []) first (ending (Some (fault_at 0 5 2 kind.RepeatedRowId))) × IsJoined header 5 [] first (ending (Some (file_fault 0 kind.Memory)))
joined_or_refused = (inl refl, inr refl)

left_of_a_table : (fault_or_next None one ≡ one) × (fault_or_next (Some (fault_at 0 5 0 kind.Ragged)) one ≡ ending (Some (fault_at 0 5 0 kind.Ragged)))
left_of_a_table = (refl, refl)

-- `counts_from`, `IsEndIn`: where the facts of rows end, and in which stretch.
ends_of_rows : counts_from 0 ((note [] [] ∷ note [] [] ∷ []) ∷ [] ∷ (note [] [] ∷ []) ∷ []) ≡ 2 ∷ 2 ∷ 3 ∷ []
unfolding counts_from
ends_of_rows = refl

rows_of_stretches : stretches (([] ∷ []) ∷ [] ∷ ([] ∷ [] ∷ []) ∷ []) ≡ [] ∷ [] ∷ [] ∷ []
rows_of_stretches = refl

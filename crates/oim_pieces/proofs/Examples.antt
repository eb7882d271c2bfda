-- Examples of the rules for pieces under way (`specs/Flights.antt`, `specs/state`).
use Rattle.std.proofs.Common.{◌≡◌, ◌∷◌, ◌+◌, ◌≤◌, [], ℕ, List, Option, Some, None, Result, Ok, Err, ap, arith, codes, length, refl, true, inl, inr}
use Rattle.std.specs.Str.{chars, is_utf8}
use Rattle.csv.specs.Records.{field_at}
use Rattle.oim_names.specs.Names.{is_ncname, is_name_char, is_name_start, is_plain_char, is_row_identifier}
use Rattle.csv.specs.Machine.{next_record}
use Rattle.csv.specs.Reading.{records_from, strip_bom}
use Rattle.oim_records.specs.Grids.{Field, Record, records_left}
use Rattle.oim_report.specs.Readers.{no_level}
use Rattle.oim_report.specs.ReportValue.{ReportValue}
use Rattle.oim_report.specs.declared.data.ColumnKind.TheVariants as content
use Rattle.oim_rows.specs.Header.{fault_at, file_fault}
use Rattle.oim_rows.specs.RowFacts.{TableHeaderValue}
use Rattle.oim_rows.specs.Streams.{Stream, ending, stream_from}
use Rattle.oim_rows.specs.declared.fault.TableFault.{TableFault}
use Rattle.oim_rows.specs.declared.fault.TableKind.TheVariants as kind
use Rattle.oim_decode.specs.Apart.{Apart, apart_from}
use Rattle.oim_pieces.specs.state.ComingAnswers.{Comes, IsKept}
use Rattle.oim_pieces.specs.state.Cutting.{CutterLeft, HasAtLeast, IsOver, TakesRows, left_over}
use Rattle.oim_pieces.specs.PiecesLeft.{FewerSteps, GivesBlocks, KeepsStream, NoMoreSteps, steps_for, steps_left}
use Rattle.oim_pieces.specs.state.PiecesUnderWay.{AreChained, PieceRowsLeft, GivesJoined, IsEndOfTable, IsFront, IsPieceAnswer, ReadsJoined, fault_or_left, first_row_of, head_pieces, next_row, rows_in, rows_left, steps_in, stream_in}
use Rattle.oim_pieces.specs.declared.decoded.Asked.{Asked}
use Rattle.oim_pieces.specs.declared.piece_under_way.ComingAnswer.TheVariants.{Here, Awaited}

-- A report of one table whose rows have an identifier and no facts.
abbrev report : ReportValue
report = record {
  info = record { base_url = None; taxonomy = [] };
  namespaces = [];
  types = [];
  level = no_level;
  templates = record { id = codes "m"; columns = record { id = codes "k"; kind = content.Plain; level = no_level; groups = []; from = [] } ∷ []; row_id_column = Some 0; level = no_level } ∷ [];
  tables = record { id = codes "t1"; url = codes "t1.csv"; is_optional = true; template = 0; parameters = [] } ∷ [];
  parameters = [];
}

abbrev limited : ℕ → TableHeaderValue
limited limit = record { report = report; table = 0; limit = limit; columns = Some 0 ∷ [] }

abbrev header : TableHeaderValue
header = limited 9

abbrev a : Record
a = codes "k" ∷ []

abbrev b : Record
b = codes "kk" ∷ []

abbrev c : Record
c = codes "kkk" ∷ []

abbrev read : TableFault
read = file_fault 0 kind.Read

-- CUTTING (`left_over`). The end leaves no record. After a failure, or before the end, what there
-- was is left.
records_left_over : (left_over None (Some (a ∷ [])) ≡ Some (a ∷ [])) × (left_over (Some None) (Some (a ∷ [])) ≡ Some []) × (left_over {A = Record} (Some None) None ≡ Some [])
    × (left_over (Some (Some read)) (Some (a ∷ [])) ≡ Some (a ∷ []))
records_left_over = (refl, refl, refl, refl)

over : IsOver 0 (Some []) None × IsOver 0 (Some (a ∷ [])) (Some read) × IsOver 0 (Some (a ∷ [])) (Some (file_fault 0 kind.Memory)) × (IsOver 0 (Some (a ∷ [])) None → ⊥)
over = (refl, inl refl, inr refl, λ h. absurd (cc h))

piece_cut : TakesRows (Some (a ∷ b ∷ c ∷ [])) (a ∷ b ∷ []) (Some (c ∷ []))
piece_cut = refl

piece_cut_wrong : (TakesRows (Some (a ∷ b ∷ [])) (b ∷ []) (Some (a ∷ [])) → ⊥) × (TakesRows (Some (a ∷ b ∷ [])) (a ∷ []) (Some []) → ⊥) × (TakesRows (Some (a ∷ [])) (a ∷ []) None → ⊥)
piece_cut_wrong = (λ h. absurd (cc h), λ h. absurd (cc h), λ h. h)

-- `HasAtLeast`: three bytes were left, and one blank line was passed over before a piece of one.
bytes_left_over : HasAtLeast (Some (codes "kkk")) (codes "k") (Some (codes "k")) × HasAtLeast (Some (codes "kkk")) [] (Some (codes "kkk")) × HasAtLeast None (codes "k") None
bytes_left_over = (omega arith, omega arith, tt)

bytes_left_over_wrong : (HasAtLeast (Some (codes "kk")) (codes "kk") (Some (codes "k")) → ⊥) × (HasAtLeast (Some (codes "kk")) (codes "k") None → ⊥)
bytes_left_over_wrong = (λ h. absurd (omega (arith, h)), λ h. h)

-- DECODERS AND ANSWERS
abbrev ids_of : List (List ℕ) → Apart
ids_of [] = record { rows = []; ids = []; fault = None }
ids_of (k ∷ ks) = record { rows = [] ∷ (ids_of ks).rows; ids = k ∷ (ids_of ks).ids; fault = None }

answer_of_a_piece : IsPieceAnswer header 4 (a ∷ b ∷ []) (ids_of (codes "k" ∷ codes "kk" ∷ []))
unfolding apart_from chars is_row_identifier is_plain_char is_ncname is_name_char is_name_start field_at is_utf8 lib.Utf8.encode
answer_of_a_piece = record { decoded = inl refl; few = omega arith }

too_many : IsPieceAnswer header 4294967295 (a ∷ b ∷ []) (ids_of (codes "k" ∷ codes "kk" ∷ [])) → ⊥
too_many h = let few : 4294967295 + 2 ≤ 4294967296 = h.few in absurd (omega (arith, few))

-- PIECES: rows 4 and 5, then row 6. The next piece to cut starts with row 7.
abbrev front : PieceRowsLeft
front = record { header = header; first = 4; rows = a ∷ b ∷ [] }

abbrev second : PieceRowsLeft
second = record { header = header; first = 6; rows = c ∷ [] }

chained : AreChained header (front ∷ second ∷ []) 7
chained = (refl, omega arith, refl, (refl, omega arith, refl, tt))

not_chained : (AreChained header (front ∷ second ∷ []) 8 → ⊥) × (AreChained header (second ∷ front ∷ []) 7 → ⊥) × (AreChained (limited 8) (front ∷ []) 6 → ⊥)
not_chained = (λ h. absurd (omega (arith, h.3.2)), λ h. absurd (omega (arith, h.2)), λ h. let limits : 9 ≡ 8 = ap (λ (g : TableHeaderValue). g.limit) h.0 in absurd (omega (arith, limits)))

in_order : (first_row_of (front ∷ second ∷ []) 7 ≡ 4) × (first_row_of [] 7 ≡ 7) × (rows_in (front ∷ second ∷ []) ≡ a ∷ b ∷ c ∷ [])
in_order = (refl, refl, refl)

-- A piece without a row does not go on.
empty_piece : AreChained header (record { header = header; first = 4; rows = [] } ∷ []) 4 → ⊥
empty_piece h = absurd (omega (arith, h.1))

-- `head_pieces`: the rows after the header are the first piece, if there are any.
rows_of_the_head : (head_pieces header (a ∷ b ∷ []) ≡ record { header = header; first = 1; rows = a ∷ b ∷ [] } ∷ []) × (head_pieces header [] ≡ [])
rows_of_the_head = (refl, refl)

-- `rows_left`: the pieces' rows and then those after them. In the first case row 7 repeats the
-- identifier of `a`; in the second an earlier row has that of `c`.
whole_stream : (rows_left header [] (front ∷ second ∷ []) 7 (Some (a ∷ [])) ≡ Some (record { rows = [] ∷ [] ∷ [] ∷ []; fault = Some (fault_at 0 7 1 kind.RepeatedRowId) }))
    × (rows_left header (codes "kkk" ∷ []) (front ∷ second ∷ []) 7 (Some []) ≡ Some (record { rows = [] ∷ [] ∷ []; fault = Some (fault_at 0 6 1 kind.RepeatedRowId) }))
    × (rows_left header [] (front ∷ []) 6 None ≡ None)
unfolding stream_from chars is_row_identifier is_plain_char is_ncname is_name_char is_name_start field_at is_utf8 lib.Utf8.encode
whole_stream = (refl, refl, refl)

-- `next_row`: that of the first piece, else that of the next one to cut.
next_to_give : (ids : List Field) (left : CutterLeft) → (next_row (record { header = header; ids = ids; pieces = front ∷ second ∷ []; cutter = left }) ≡ 4)
    × (next_row (record { header = header; ids = ids; pieces = []; cutter = left }) ≡ left.next)
next_to_give ids left = (refl, refl)

stream_of_the_cutter : stream_in (record { header = limited 6; ids = []; pieces = []; cutter = record { table = 0; limit = 6; next = 6; left = Some (a ∷ b ∷ []); over = None; unread = None } })
    ≡ Some (record { rows = [] ∷ []; fault = Some (fault_at 0 7 0 kind.TooManyRows) })
unfolding stream_from chars is_row_identifier is_plain_char is_ncname is_name_char is_name_start field_at is_utf8 lib.Utf8.encode
stream_of_the_cutter = refl

kept : KeepsStream (Some (ending None)) (Some (ending None)) × (KeepsStream (Some (ending None)) None → ⊥)
kept = (refl, λ h. absurd (cc h))

-- ENDS (`fault_or_left`). Nothing follows a fault.
abbrev one : Stream
one = record { rows = [] ∷ []; fault = None }

behind_a_piece : (fault_or_left None (Some one) ≡ Some one) × (fault_or_left (Some read) (Some one) ≡ Some (ending (Some read))) × (fault_or_left (Some read) None ≡ Some (ending (Some read)))
behind_a_piece = (refl, refl, refl)

-- `GivesBlocks`: one row without facts was read.
row_given : GivesBlocks 0 one ([] ∷ []) (Some (ending None))
row_given = record { rows = [] ∷ []; reads = inl (refl, refl); answers = refl }

-- `ReadsJoined`: the first of two rows was joined; the second is left, or its fault.
first_of_two : ReadsJoined 0 (record { rows = [] ∷ [] ∷ []; fault = None }) one (Some one)
first_of_two = inl (refl, refl)

first_and_a_failure : ReadsJoined 0 (record { rows = [] ∷ [] ∷ []; fault = None }) (record { rows = [] ∷ []; fault = Some read }) (Some one)
first_and_a_failure = inr (([] ∷ [], refl), read, inl refl, refl)

-- `GivesJoined`: rows of a joined piece whose fault ends the table.
joined_to_its_fault : GivesJoined (record { rows = [] ∷ []; fault = Some read }) (Some one) ([] ∷ []) (Some (ending (Some read)))
joined_to_its_fault = (refl, refl)

ends : IsEndOfTable 0 (Some (ending None)) None × IsEndOfTable 0 (Some one) (Some read) × (IsEndOfTable 0 (Some one) None → ⊥)
ends = (refl, inl refl, λ h. let counts : 1 ≡ 0 = ap (λ (s : Stream). length s.rows) h in absurd (omega (arith, counts)))

-- STEPS (`steps_for`): three bytes that are not cut, and pieces under way.
three_and_two : (steps_for 2 (Some (codes "kkk")) ≡ Some 5) × (steps_for 2 None ≡ None)
    × (steps_in (record { header = header; ids = []; pieces = front ∷ []; cutter = record { table = 0; limit = 6; next = 6; left = None; over = None; unread = Some (codes "kkk") } }) ≡ Some 4)
three_and_two = (refl, refl, refl)

steps_of_what_is_left : steps_left (record { table = 0; limit = 6; next = 4; left = None; answered = None; under_way = 2; unread = Some (codes "kkk") }) ≡ Some 5
steps_of_what_is_left = refl

no_more : NoMoreSteps (Some 3) (Some 3) × NoMoreSteps None (Some 3) × (NoMoreSteps (Some 3) (Some 4) → ⊥) × (NoMoreSteps (Some 3) None → ⊥)
no_more = (omega arith, tt, λ h. absurd (omega (arith, h)), λ h. h)

fewer : FewerSteps (Some 3) (Some 2) × FewerSteps None (Some 3) × (FewerSteps (Some 3) (Some 3) → ⊥) × (FewerSteps (Some 3) None → ⊥)
fewer = (omega arith, tt, λ h. absurd (omega (arith, h)), λ h. h)

-- JOINED (`IsFront`): the identifier of `b` is in an earlier row, and ends the piece there.
front_joined : IsFront front (codes "kk" ∷ []) (record { rows = [] ∷ []; fault = Some (fault_at 0 5 1 kind.RepeatedRowId) }) []
unfolding apart_from chars is_row_identifier is_plain_char is_ncname is_name_char is_name_start field_at is_utf8 lib.Utf8.encode
front_joined = record { answer = ids_of (codes "k" ∷ codes "kk" ∷ []); decoded = inl refl; joined = inl refl; behind = λ h. absurd (cc h) }

ids_behind : IsFront second (codes "kk" ∷ []) (record { rows = [] ∷ []; fault = None }) (codes "kk" ∷ codes "kkk" ∷ [])
unfolding apart_from chars is_row_identifier is_plain_char is_ncname is_name_char is_name_start field_at is_utf8 lib.Utf8.encode
ids_behind = record { answer = ids_of (codes "kkk" ∷ []); decoded = inl refl; joined = inl refl; behind = λ h. refl }

-- COMING (`Comes`): an answer that is here is for the piece that was asked for. An answer from a
-- thread arrives through that piece's channel only.
abbrev asked : Asked → List Record → Asked
asked any rows = record any { header = record any.header { value = header }; first = 6; rows = record any.rows { value = rows } }

comes_here : (any : Asked) → Comes (asked any (c ∷ [])) (Here (ids_of (codes "kkk" ∷ [])))
unfolding apart_from chars is_row_identifier is_plain_char is_ncname is_name_char is_name_start field_at is_utf8 lib.Utf8.encode
comes_here any = record { decoded = inl refl; few = omega arith }

through_its_channel : (any : Asked) → Comes (asked any (c ∷ [])) (Awaited (Some (asked any (c ∷ [])))) × (Comes (asked any (c ∷ [])) (Awaited None) → ⊥)
through_its_channel any = ((refl, refl, refl), λ h. h)

-- The bytes of a piece of one row, with number 6.
kept_here : (any : Asked) → IsKept (asked any (c ∷ [])) (codes "kkk")
unfolding records_left records_from next_record strip_bom
kept_here any = record { rows = refl; some = omega arith; may = omega arith }

other_bytes_kept : (any : Asked) → IsKept (asked any (c ∷ [])) (codes "kk") → ⊥
unfolding records_left records_from next_record strip_bom
other_bytes_kept any kept = cc kept.rows

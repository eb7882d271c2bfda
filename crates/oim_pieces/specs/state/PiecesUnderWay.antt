-- The pieces of a table that are under way, each with its rows, and the stream that is left with
-- them.
use Rattle.std.specs.Prelude.{◌≡◌, ◌++◌, ◌+◌, ◌≤◌, ⊤, ℕ, List, [], ◌∷◌, length, Option, Some, None, IfSome, option_map}
use Rattle.std.specs.List.{flat_map}
use Rattle.oim_records.specs.Grids.{Field, Record}
use Rattle.oim_resolve.specs.FactParts.{FactParts as Fact}
use Rattle.oim_rows.specs.RowFacts.{TableHeaderValue}
use Rattle.oim_rows.specs.Streams.{IsOutside, Stream, ending, facts_of_rows, stream_from}
use Rattle.oim_rows.specs.declared.fault.TableFault.{TableFault}
use Rattle.oim_decode.specs.Apart.{Apart}
use Rattle.oim_decode.specs.Blocks.{ReadsRows}
use Rattle.oim_decode.specs.PieceAnswers.{IsJoined, IsPieceDecoded}
use Rattle.oim_pieces.specs.state.Cutting.{CutterLeft}
use Rattle.oim_pieces.specs.PiecesLeft.{steps_for}

-- A piece: its table's header, the number of its first row, and its rows.
pub record PieceRowsLeft : Type 0 where
  pub header : TableHeaderValue
  pub first : ℕ
  pub rows : List Record

-- The answer for a piece. No identifier in it belongs to a row after number 4,294,967,295.
pub record IsPieceAnswer (g : TableHeaderValue) (first : ℕ) (rows : List Record) (a : Apart) : Type 0 where
  pub decoded : IsPieceDecoded g first rows a
  pub few : first + length a.ids ≤ 4294967296

-- The number of the first row of the pieces, or the next row's number if there are no pieces.
abbrev pub first_row_of : List PieceRowsLeft → ℕ → ℕ
first_row_of [] next = next
first_row_of (f ∷ fs) next = f.first

-- Each piece has a row. The rows are numbered one after another, and all have the same header.
abbrev pub AreChained : TableHeaderValue → List PieceRowsLeft → ℕ → Type 0
AreChained g [] next = ⊤
AreChained g (f ∷ fs) next = (f.header ≡ g) × (1 ≤ length f.rows) × (f.first + length f.rows ≡ first_row_of fs next) × AreChained g fs next

-- The rows that were read with the header, as the first piece if there are any.
abbrev pub head_pieces : TableHeaderValue → List Record → List PieceRowsLeft
head_pieces g [] = []
head_pieces g (r ∷ rows) = record { header = g; first = 1; rows = r ∷ rows } ∷ []

-- The rows of the pieces, in order.
abbrev pub rows_in : List PieceRowsLeft → List Record
rows_in fs = flat_map (λ (f : PieceRowsLeft). f.rows) fs

-- The pieces under way: the table's header, the identifiers of the rows that were given, the
-- pieces, and what is left to cut.
pub record UnderWayLeft : Type 0 where
  pub header : TableHeaderValue
  pub ids : List Field
  pub pieces : List PieceRowsLeft
  pub cutter : CutterLeft

-- The stream of the pieces' rows and of the records after them, if these are known, when the rows
-- before have the identifiers `ids`.
abbrev pub rows_left : TableHeaderValue → List Field → List PieceRowsLeft → ℕ → Option (List Record) → Option Stream
rows_left g ids fs next left = option_map (λ records. stream_from g (first_row_of fs next) ids (rows_in fs ++ records)) left

-- The number of the next row to give.
abbrev pub next_row : UnderWayLeft → ℕ
next_row f = first_row_of f.pieces f.cutter.next

abbrev pub stream_in : UnderWayLeft → Option Stream
stream_in f = rows_left f.header f.ids f.pieces f.cutter.next f.cutter.left

-- What is left after a piece: only its fault, or else what follows.
abbrev pub fault_or_left : Option TableFault → Option Stream → Option Stream
fault_or_left None next = next
fault_or_left (Some e) next = Some (ending (Some e))

-- The rows of a joined piece were read from `whole`. After them `left` remains, unless the piece
-- has a fault.
abbrev pub ReadsJoined : ℕ → Stream → Stream → Option Stream → Type 0
ReadsJoined table whole joined left = ReadsRows table whole joined.rows (fault_or_left joined.fault left)

-- The rows have the facts of a joined piece. After them what was left before remains, unless the
-- piece has a fault.
abbrev pub GivesJoined : Stream → Option Stream → List (List Fact) → Option Stream → Type 0
GivesJoined joined before rows after = (facts_of_rows rows ≡ facts_of_rows joined.rows) × (after ≡ fault_or_left joined.fault before)

-- The stream is at its end, or the fault is from outside the table.
abbrev pub IsEndOfTable : ℕ → Option Stream → Option TableFault → Type 0
IsEndOfTable table left None = IfSome left (λ s. s ≡ ending None)
IsEndOfTable table left (Some e) = IsOutside table e

abbrev pub steps_in : UnderWayLeft → Option ℕ
steps_in f = steps_for (length f.pieces) f.cutter.unread

-- The first piece under way was joined to rows with the identifiers `ids`, which become `ids'`.
pub record IsFront (piece : PieceRowsLeft) (ids : List Field) (s : Stream) (ids' : List Field) : Type 0 where
  pub answer : Apart
  pub decoded : IsPieceDecoded piece.header piece.first piece.rows answer
  pub joined : IsJoined piece.header piece.first ids answer s
  pub behind : s.fault ≡ None → ids' ≡ ids ++ answer.ids

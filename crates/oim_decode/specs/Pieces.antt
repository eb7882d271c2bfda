-- The stream of a table, piece by piece: each piece is decoded without the others, and joined to
-- those before it.
use Rattle.std.specs.Prelude.{⊤, List, [], ◌∷◌, ◌++◌, ◌≡◌, ℕ, ◌+◌, true, Option, Some, None, length, map}
use Rattle.std.specs.List.{flat_map}
use Rattle.csv.specs.Reading.{strip_bom}
use Rattle.csv.specs.declared.parser.State.TheVariants as state
use Rattle.oim_records.specs.Cuts.{is_between, state_after}
use Rattle.oim_records.specs.Grids.{Field, Record, records_left}
use Rattle.oim_report.specs.ReportValue.{ReportValue}
use Rattle.oim_decode.specs.Apart.{apart_from, joined_piece}
use Rattle.oim_rows.specs.Header.{header_fault}
use Rattle.oim_rows.specs.RowFacts.{TableHeaderValue}
use Rattle.oim_rows.specs.Streams.{Stream, ending, table_header_of, stream_from, table_stream}
use Rattle.oim_rows.specs.declared.fault.TableFault.{TableFault}

-- The stream `s` up to its fault, or, without a fault, `s` and then `t`.
abbrev pub stream_until : Option TableFault → Stream → Stream → Stream
stream_until None s t = record { rows = s.rows ++ t.rows; fault = t.fault }
stream_until (Some e) s t = s

-- A stream, and what follows it unless it has a fault.
abbrev pub stream_then : Stream → Stream → Stream
stream_then s t = stream_until s.fault s t

-- The stream of the pieces from row n on, if the rows before have the identifiers `ids`.
unfoldable pub pieces_from : TableHeaderValue → ℕ → List Field → List (List Record) → Stream
pieces_from g n ids [] = ending None
pieces_from g n ids (p ∷ ps) = stream_then (joined_piece g n ids (apart_from g n p)) (pieces_from g (n + length p) (ids ++ (apart_from g n p).ids) ps)

-- The records of the pieces, in order.
abbrev pub records_of : List (List Record) → List Record
records_of pieces = flat_map (λ piece. piece) pieces

-- However records are cut into pieces, the pieces give the stream of the records.
abbrev pub RowsInPieces : Type 0
RowsInPieces = (g : TableHeaderValue) (n : ℕ) (ids : List Field) (pieces : List (List Record)) → stream_from g n ids (records_of pieces) ≡ pieces_from g n ids pieces

-- The stream of a piece and of more records is that of the piece, then that of the rest.
abbrev pub PieceThenRest : Type 0
PieceThenRest =
    (g : TableHeaderValue) (n : ℕ) (ids : List Field) (piece rest : List Record)
    → stream_from g n ids (piece ++ rest)
    ≡ stream_then (joined_piece g n ids (apart_from g n piece)) (stream_from g (n + length piece) (ids ++ (apart_from g n piece).ids) rest)

-- The bytes end between two records, unless no bytes follow them.
abbrev pub EndsBetween : List (List ℕ) → List ℕ → Type 0
EndsBetween [] bytes = ⊤
EndsBetween (next ∷ more) bytes = is_between (state_after state.StartRecord bytes) ≡ true

-- Each piece except the last ends between two records.
unfoldable pub AreCut : List (List ℕ) → Type 0
AreCut [] = ⊤
AreCut (bytes ∷ pieces) = EndsBetween pieces bytes × AreCut pieces

-- A table's stream from the bytes of its file, cut anywhere between two records after its
-- byte-order mark, if the first piece has a header without a fault.
abbrev pub FileInPieces : Type 0
FileInPieces =
    (report : ReportValue) (table limit : ℕ) (file first : List ℕ) (pieces : List (List ℕ)) (header : Record) (rows : List Record)
    → strip_bom file ≡ first ++ flat_map (λ bytes. bytes) pieces
    → AreCut (first ∷ pieces)
    → records_left state.StartRecord first ≡ header ∷ rows
    → header_fault report table header ≡ None
    → table_stream report table limit (Some file) ≡ pieces_from (table_header_of report table limit header) 1 [] (rows ∷ map (records_left state.StartRecord) pieces)

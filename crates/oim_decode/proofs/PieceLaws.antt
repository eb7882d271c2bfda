-- A table's stream from the pieces of its file.
use Rattle.std.proofs.Common.{◌≡◌, ◌++◌, ℕ, List, [], ◌∷◌, map, None, refl, sym, ap, ◌∙◌, append-nil}
use Rattle.std.specs.List.{flat_map}
use Rattle.csv.specs.declared.parser.State.TheVariants as state
use Rattle.oim_records.specs.Grids.{Record, grid, records_left}
use Rattle.oim_records.proofs.PieceReads.{no-record}
use Rattle.oim_records.proofs.RecordLaws.{cut-records}
use Rattle.oim_report.specs.ReportValue.{ReportValue}
use Rattle.oim_rows.specs.Header.{header_fault}
use Rattle.oim_decode.specs.Pieces.{AreCut, FileInPieces, records_of}
use Rattle.oim_rows.specs.Streams.{table_header_of, stream_from, stream_of}
use Rattle.oim_decode.proofs.ApartLaws.{rows_in_pieces}

-- The records of the cut pieces, in order.
pub cut_pieces : (ps : List (List ℕ)) → AreCut ps → records_left state.StartRecord (flat_map (λ p. p) ps) ≡ records_of (map (records_left state.StartRecord) ps)
unfolding AreCut
cut_pieces [] cut = no-record
cut_pieces (p ∷ []) cut = ap (records_left state.StartRecord) (append-nil p) ∙ sym (append-nil (records_left state.StartRecord p))
cut_pieces (p ∷ q ∷ ps) cut =
    cut-records state.StartRecord p (flat_map (λ r. r) (q ∷ ps)) cut.0 ∙ ap (λ t. records_left state.StartRecord p ++ t) (cut_pieces (q ∷ ps) cut.1)

good_header : (report : ReportValue) (table limit : ℕ) (header : Record) (rows : List Record) → header_fault report table header ≡ None
    → stream_of report table limit (header ∷ rows) ≡ stream_from (table_header_of report table limit header) 1 [] rows
good_header report table limit header rows none = rw none refl

pub file_in_pieces : FileInPieces
file_in_pieces report table limit file first pieces header rows bytes cut head none =
    let more = records_of (map (records_left state.StartRecord) pieces) in
    let all : grid file ≡ header ∷ (rows ++ more) =
    ap (records_left state.StartRecord) bytes ∙ cut_pieces (first ∷ pieces) cut ∙ ap (λ t. t ++ more) head in
    ap (stream_of report table limit) all ∙ good_header report table limit header (rows ++ more) none
    ∙ rows_in_pieces (table_header_of report table limit header) 1 [] (rows ∷ map (records_left state.StartRecord) pieces)

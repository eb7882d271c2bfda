-- How the answer for a piece arrives.
use Rattle.std.specs.Prelude.{◌≡◌, ◌+◌, ◌≤◌, ℕ, List}
use Rattle.csv.specs.declared.parser.State.TheVariants as state
use Rattle.oim_records.specs.Grids.{records_left}
use Rattle.oim_pieces.specs.state.PiecesUnderWay.{IsPieceAnswer}
use Rattle.oim_pieces.specs.state.Channels.{IsOf}
use Rattle.oim_pieces.specs.declared.decoded.Asked.{Asked}
use Rattle.oim_pieces.specs.declared.piece_under_way.ComingAnswer.{ComingAnswer}
use Rattle.oim_pieces.specs.declared.piece_under_way.ComingAnswer.TheVariants.{Awaited, Here, Kept}

-- The bytes are those of the piece that was asked for. Rows are numbered from 1.
pub record IsKept (asked : Asked) (bytes : List ℕ) : Type 0 where
  pub rows : records_left state.StartRecord bytes ≡ asked.rows.value
  pub some : 1 ≤ asked.first
  pub may : asked.first ≤ asked.header.value.limit + 1

-- The answer for the piece arrives through that piece's channel, or is here, or its bytes are.
abbrev pub Comes : Asked → ComingAnswer → Type 0
Comes asked (Awaited pending) = IsOf asked pending
Comes asked (Here answer) = IsPieceAnswer asked.header.value asked.first asked.rows.value answer
Comes asked (Kept bytes) = IsKept asked bytes.items

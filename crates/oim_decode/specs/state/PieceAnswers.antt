-- How a piece is decoded, row after row.
use Rattle.std.specs.Prelude.{◌≡◌, ◌⊎◌, ◌≤◌, Bool, true, false, List, [], ◌∷◌, ℕ, None}
use Rattle.oim_records.specs.Grids.{Record}
use Rattle.oim_fast.specs.Facts.{facts_of_row}
use Rattle.oim_row.specs.Rows.{RowValue}
use Rattle.oim_rows.specs.RowFacts.{TableHeaderValue, id_place_of}
use Rattle.oim_decode.specs.Apart.{Apart, apart_from, apart_row, id_in}
use Rattle.oim_decode.specs.PieceAnswers.{refused, apart_then}

-- No row and no fault.
abbrev pub no_rows : Apart
no_rows = record { rows = []; ids = []; fault = None }

-- What one row gives that has no fault apart from its cells.
abbrev pub cells_apart : RowValue → Apart
cells_apart x = apart_row None (facts_of_row x) (id_in (id_place_of x.header) x.fields) no_rows

-- A row was added to those before it, or memory ran out for it.
abbrev pub AddsApart : ℕ → Apart → Apart → Apart → Type 0
AddsApart table before one after = (after ≡ apart_then before one) ⊎ (after ≡ apart_then before (refused table))

-- Row n, the first of the records left, was added to those before it and has no fault.
abbrev pub TakesRow : TableHeaderValue → ℕ → List Record → Apart → List Record → Apart → Type 0
TakesRow g n [] before left after = ⊥
TakesRow g n (r ∷ rest) before left after = (left ≡ rest) × (after ≡ apart_then before (apart_from g n (r ∷ []))) × (after.fault ≡ None) × (n ≤ g.limit)

-- No row is left, or the first one ends the piece.
abbrev pub EndsRows : TableHeaderValue → ℕ → List Record → Apart → Apart → Type 0
EndsRows g n rs before after = AddsApart g.table before (apart_from g n rs) after

-- A row was taken, or the piece ends.
abbrev pub StepsRow : TableHeaderValue → ℕ → List Record → Apart → Bool → List Record → Apart → Type 0
StepsRow g n rs before true left after = TakesRow g n rs before left after
StepsRow g n rs before false left after = EndsRows g n rs before after

-- What is prepared for the cells of a table's rows.
use Rattle.std.specs.Prelude.{◌≡◌, ◌⊎◌, ◌≤◌, ◌-◌, drop, ◌<◌, ◌^◌, ℕ, true, Bool, List, ◌++◌, codes, decimal, length, map, slice_index_or, take, IfSome, None, Result, Ok}
use Rattle.std.specs.List.{All}
use Rattle.oim_cells.specs.Cells.{meaning_of}
use Rattle.oim_json.specs.Blocks.{behind_commas, ends_from}
use Rattle.oim_resolve.specs.FactParts.{FactParts as Fact}
use Rattle.oim_resolve.specs.Facts.{cell_result, is_absent}
use Rattle.oim_rows.specs.RowFacts.{TableHeaderValue, id_place_of}
use Rattle.oim_fast.specs.state.CellValues.{IsValue}
use Rattle.oim_fast.specs.Facts.{GiveFacts, fact_columns_in}
use Rattle.oim_fast.specs.state.Columns.{AreFactColumns}
use Rattle.oim_fast.specs.state.FactTexts.{AddsFact}
use Rattle.oim_fast.specs.state.Facts.{WritesFact, lead_text, start_text}
use Rattle.oim_fast.specs.state.FrameTexts.{FrameValue}
use Rattle.oim_fast.specs.state.KeptFrames.{IsFrame}
use Rattle.oim_fast.specs.state.Making.{IsMaker, IsReadyMaker}
use Rattle.oim_row.specs.References.{ReferenceValue, key_of}
use Rattle.oim_row.specs.Rows.{RowValue}
use Rattle.oim_row.specs.state.Rows.{cell_in}
use Rattle.oim_fast.specs.declared.frame.fact_start.FactStart.{FactStart}
use Rattle.oim_fast.specs.declared.frame.value.Value.{Value}
use Rattle.oim_fast.specs.declared.table.cell_writer.CellWriter.{CellWriter}

-- The text ends with the row's number, which is the identifier in this table.
abbrev pub IsNumbered : TableHeaderValue → List ℕ → ℕ → Type 0
IsNumbered f text n = (id_place_of f ≡ None) × (text ≡ (lead_text f ++ codes "r_") ++ decimal n)

-- The text begins with that of a fact under this header, up to the row's identifier.
pub record IsStartOf (f : TableHeaderValue) (s : FactStart) : Type 0 where
  pub text : take s.lead s.start.items ≡ lead_text f
  pub size : s.lead ≡ length (lead_text f)
  pub number : IfSome s.number (IsNumbered f s.start.items)

-- The writer is prepared for the rows under this header.
pub record IsCellWriter (f : TableHeaderValue) (w : CellWriter) : Type 0 where
  pub columns : AreFactColumns f w.maker.cells.list.items w.columns.items
  pub maker : IsReadyMaker f w.maker
  pub frames : All (IsFrame f (map key_of w.maker.references)) w.frames.list.items
  pub lead : IsStartOf f w.start

-- The writer has moved to this row.
pub record IsInRow (x : RowValue) (w : CellWriter) : Type 0 where
  pub columns : AreFactColumns x.header w.maker.cells.list.items w.columns.items
  pub maker : IsMaker x w.maker
  pub frames : All (IsFrame x.header (map key_of w.maker.references)) w.frames.list.items
  pub lead : IsStartOf x.header w.start
  pub start : w.start.start.items ≡ start_text x
  pub number : x.number < 2 ^ 32

-- The column of facts at a place among those of a header.
abbrev pub column_at : TableHeaderValue → ℕ → ℕ
column_at f i = slice_index_or (fact_columns_in f f.columns) i 0

-- A cell's fact was appended, or the cell has none. Otherwise nothing was appended.
abbrev pub PutsCell : {E : Type 0} → RowValue → ℕ → List ℕ → List ℕ → Result Bool E → Type 0
PutsCell x c old new (Ok true) = WritesFact (cell_result (cell_in x c)) old new
PutsCell x c old new r = new ≡ old

-- The same for a cell under a frame.
abbrev pub PutsSaid : {E : Type 0} → RowValue → List ReferenceValue → FrameValue → List ℕ → List ℕ → List ℕ → List ℕ → Result Bool E → Type 0
PutsSaid x rs t start cell old new (Ok true) =
    ((is_absent (meaning_of cell) ≡ true) × (new ≡ old)) ⊎ ((v : Value) × IsValue x.header.report t.kind (meaning_of cell) v × AddsFact rs t v start old new)
PutsSaid x rs t start cell old new r = new ≡ old

-- The facts of the first i columns were appended, each with a comma before it, and the end of each
-- was recorded.
pub record HasFacts (x : RowValue) (i : ℕ) (old new noted notes : List ℕ) : Type 0 where
  pub facts : List Fact
  pub are : GiveFacts x (take i (fact_columns_in x.header x.header.columns)) facts
  pub text : new ≡ old ++ behind_commas facts
  pub ends : notes ≡ noted ++ ends_from (length old) facts

-- No cell of the columns of facts from index i up to j has a fault.
pub record GivesPart (x : RowValue) (i j : ℕ) : Type 0 where
  pub facts : List Fact
  pub order : i ≤ j
  pub are : GiveFacts x (take (j - i) (drop i (fact_columns_in x.header x.header.columns))) facts

-- The kept columns of facts of a header.
use Rattle.std.specs.Prelude.{◌≡◌, ◌<◌, ℕ, List, [], ◌∷◌, Option, Some, None, map, length, slice_index_or}
use Rattle.std.specs.List.{All, slice_get}
use Rattle.std.specs.Option.{option_map}
use Rattle.oim_rows.specs.RowFacts.{TableHeaderValue, source_of_column}
use Rattle.oim_fast.specs.Facts.{fact_columns_in}
use Rattle.oim_fast.specs.state.Facts.{column_lead}
use Rattle.oim_fast.specs.state.ChosenGroups.{choices_in}
use Rattle.oim_row.specs.Rows.{column_in, columns_in}
use Rattle.oim_fast.specs.declared.frame.fact_column.FactColumn.{FactColumn}
use Rattle.oim_row.specs.declared.group_cells.Choice.{Choice}
use Rattle.oim_row.specs.declared.group_cells.GroupCell.{GroupCell}

-- What is kept of a column of facts. `place` is that of its cell in the header.
pub record IsFactColumn (f : TableHeaderValue) (cells : List GroupCell) (c : FactColumn) : Type 0 where
  pub range : c.column < length (columns_in f)
  pub there : source_of_column f.columns c.column ≡ Some c.place
  pub level : c.level.now ≡ (column_in f c.column).level
  pub lead : c.lead.items ≡ column_lead f c.column
  pub from : All (λ g. g < length (columns_in f)) (column_in f c.column).from
  pub groups : map (λ p. option_map (λ (g : GroupCell). g.column) (slice_get cells p)) c.groups.items ≡ map Some (column_in f c.column).from

-- The choices in the columns of groups that a column takes from.
abbrev pub column_choices : List GroupCell → FactColumn → List Choice
column_choices cells c = choices_in cells c.groups.items

-- The column of facts that place i of the header names, if it names one.
abbrev pub fact_column_at : TableHeaderValue → ℕ → List ℕ
fact_column_at f i = fact_columns_in f (slice_index_or f.columns i None ∷ [])

-- What is kept of that column.
abbrev pub IsColumnAt : TableHeaderValue → List GroupCell → ℕ → Option FactColumn → Type 0
IsColumnAt f cells i None = fact_column_at f i ≡ []
IsColumnAt f cells i (Some c) = (fact_column_at f i ≡ c.column ∷ []) × IsFactColumn f cells c

-- What is kept of all columns of facts.
pub record AreFactColumns (f : TableHeaderValue) (cells : List GroupCell) (cs : List FactColumn) : Type 0 where
  pub columns : map (λ (c : FactColumn). c.column) cs ≡ fact_columns_in f f.columns
  pub are : All (IsFactColumn f cells) cs

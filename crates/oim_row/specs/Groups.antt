-- What a row gives in the columns of property groups. (xBRL-CSV 1.0, property groups)
use Rattle.std.specs.Prelude.{⊤, ◌≡◌, ◌<◌, ℕ, List, Bool, false, ◌||◌, Option, None, is_none, length}
use Rattle.std.specs.List.{slice_get}
use Rattle.std.specs.Map.{keys_of}
use Rattle.std.specs.Option.{option_map}
use Rattle.oim_cells.specs.Cells.{Meaning, meaning_of}
use Rattle.oim_names.specs.Lookup.{value_at}
use Rattle.oim_report.specs.Rising.{IsRising}
use Rattle.oim_report.specs.declared.data.Column.{Column}
use Rattle.oim_report.specs.declared.data.Level.{Level}
use Rattle.oim_resolve.specs.Facts.{is_nil_or_empty, is_text, is_unknown}
use Rattle.oim_resolve.specs.Written.{group_named}
use Rattle.oim_rows.specs.RowFacts.{TableHeaderValue, field_or_empty, source_of_column}
use Rattle.oim_row.specs.Rows.{RowValue, column_in, columns_in}
use Rattle.oim_row.specs.declared.group_cells.Choice.{Choice}
use Rattle.oim_row.specs.declared.group_cells.Choice.TheVariants as choice
use Rattle.oim_row.specs.declared.group_cells.GroupCell.{GroupCell}

-- The meaning is not absent and names no group of a column.
abbrev pub names_none : Column → Meaning → Bool
names_none c v = is_nil_or_empty v || is_text (λ t. is_none (value_at t c.groups)) v

-- The group of a column that is chosen.
abbrev pub group_at : List (List ℕ × Level) → Choice → Option Level
group_at gs choice.Nothing = None
group_at gs (choice.Group g) = option_map (λ e. e.1) (slice_get gs g)
group_at gs choice.Unknown = None

-- The same for what is kept of a column of groups.
abbrev pub level_chosen : GroupCell → Option Level
level_chosen g = group_at g.groups.now g.choice

-- A cell of a column of groups has no fault, and names the group that is chosen, or none.
pub record Names (c : Column) (v : Meaning) (o : Choice) : Type 0 where
  pub known : is_unknown v ≡ false
  pub named : names_none c v ≡ false
  pub group : group_named c v ≡ group_at c.groups o

-- What a choice asserts about a meaning.
abbrev pub Says : Column → Meaning → Choice → Type 0
Says c v choice.Nothing = Names c v choice.Nothing
Says c v (choice.Group g) = Names c v (choice.Group g)
Says c v choice.Unknown = ⊤

-- What is kept of a column of groups.
pub record IsGroupCell (f : TableHeaderValue) (g : GroupCell) : Type 0 where
  pub range : g.column < length (columns_in f)
  pub place : g.place ≡ source_of_column f.columns g.column
  pub groups : g.groups.now ≡ (column_in f g.column).groups
  pub rising : IsRising (keys_of g.groups.now)

-- Its choice is what a row gives.
abbrev pub IsSaid : RowValue → GroupCell → Type 0
IsSaid x g = Says (column_in x.header g.column) (meaning_of (field_or_empty x.fields g.place)) g.choice

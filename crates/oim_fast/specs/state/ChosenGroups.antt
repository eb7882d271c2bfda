-- What the columns of property groups at some places choose (xBRL-CSV 1.0, property groups).
use Rattle.std.specs.Prelude.{ℕ, List, Option, map}
use Rattle.std.specs.List.{flat_map, slice_get}
use Rattle.std.specs.Option.{option_and_then, option_map_or, option_to_list}
use Rattle.oim_report.specs.declared.data.Level.{Level}
use Rattle.oim_row.specs.declared.group_cells.Choice.{Choice}
use Rattle.oim_row.specs.declared.group_cells.Choice.TheVariants as choice
use Rattle.oim_row.specs.declared.group_cells.GroupCell.{GroupCell}
use Rattle.oim_row.specs.Groups.{level_chosen}

-- The levels that the columns of groups at some places choose.
abbrev pub level_at : List GroupCell → ℕ → Option Level
level_at cells p = option_and_then level_chosen (slice_get cells p)

abbrev pub levels_at : List GroupCell → List ℕ → List Level
levels_at cells places = flat_map (λ p. option_to_list (level_at cells p)) places

-- The choices themselves.
abbrev pub choice_in : List GroupCell → ℕ → Choice
choice_in cells p = option_map_or (λ (g : GroupCell). g.choice) (slice_get cells p) choice.Unknown

abbrev pub choices_in : List GroupCell → List ℕ → List Choice
choices_in cells places = map (choice_in cells) places

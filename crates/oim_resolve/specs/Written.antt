-- What the levels of a report write for the properties of a cell. The levels are report, template,
-- property groups and column, and the more specific overrides the more general. (xBRL-CSV 1.0,
-- dimensions, decimals and property groups)
use Rattle.std.specs.Prelude.{ℕ, List, [], ◌∷◌, ◌++◌, map, reverse, Option, None}
use Rattle.std.specs.List.{fold, flat_map}
use Rattle.std.specs.Option.{option_or, option_to_list}
use Rattle.std.specs.Ordering.{match_ordering, nat_cmp}
use Rattle.std.specs.Cmp.Lexicographic.{slice_cmp}
use Rattle.oim_names.specs.Lookup.{value_at}
use Rattle.oim_cells.specs.Cells.{Meaning, meaning_of}
use Rattle.oim_cells.specs.Cells as m
use Rattle.oim_report.specs.Readers.{column_of, template_of}
use Rattle.oim_report.specs.declared.data.Column.{Column}
use Rattle.oim_report.specs.declared.data.Level.{Level}
use Rattle.oim_report.specs.declared.data.Written.{Written}
use Rattle.oim_report.specs.declared.data.WrittenDecimals.{WrittenDecimals}
use Rattle.oim_resolve.specs.Cell.{Cell, column, meaning_at}

-- The group that a group cell names.
abbrev pub group_named : Column → Meaning → Option Level
group_named g (m.Text t) = value_at t g.groups
group_named g _ = None

-- The group that the row's cell at an index names.
abbrev pub group_of_cell : Cell → ℕ → Option Level
group_of_cell c i = group_named (column_of c.report c.table i) (meaning_at c i)

-- The groups that the row's cells name, in the order of `propertiesFrom`.
abbrev pub named_groups : Cell → List Level
named_groups c = flat_map (λ i. option_to_list (group_of_cell c i)) (column c).from

-- The levels of a cell, from the most general to the most specific.
abbrev pub levels : Cell → List Level
levels c = c.report.level ∷ (template_of c.report c.table).level ∷ (reverse (named_groups c) ++ (column c).level ∷ [])

-- A map, overridden by a more specific map.
abbrev pub overridden : {V : Type 0} → (List ℕ → Option V) → (List ℕ → Option V) → List ℕ → Option V
overridden general specific n = option_or (specific n) (general n)

-- The map that a level writes.
abbrev pub dimensions_at : Level → List ℕ → Option Written
dimensions_at l n = value_at n l.dimensions

-- The written dimensions: each level's map over those of the more general levels.
abbrev pub written : List Level → List ℕ → Option Written
written ls = fold overridden (λ _. None) (map dimensions_at ls)

-- The written decimals, in the same way.
abbrev pub written_decimals : List Level → Option WrittenDecimals
written_decimals ls = fold (λ general specific. option_or specific general) None (map (λ (l : Level). l.decimals) ls)

-- A name inserted at its place in byte order, unless it is there already.
abbrev pub put_name : List (List ℕ) → List ℕ → List (List ℕ)
put_name [] n = n ∷ []
put_name (k ∷ ks) n = match_ordering (slice_cmp nat_cmp n k) (n ∷ k ∷ ks) (k ∷ ks) (k ∷ put_name ks n)

-- The names that the levels write, in byte order, each once.
abbrev pub names : List Level → List (List ℕ)
names [] = []
names (l ∷ ls) = fold put_name (names ls) (map (λ e. e.0) l.dimensions)

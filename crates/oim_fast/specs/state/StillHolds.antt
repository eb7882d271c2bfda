-- What holds of the items of a list, and of those that it has later.
use Rattle.std.specs.Prelude.{List}
use Rattle.std.specs.List.{All}
use Rattle.oim_rows.specs.RowFacts.{TableHeaderValue}
use Rattle.oim_row.specs.References.{Key}

-- What holds of each item of the old list, under each header and for all keys, holds of each of the
-- new.
abbrev pub HoldsStill : {A : Type 0} → (TableHeaderValue → List Key → A → Type 0) → List A → List A → Type 0
HoldsStill P old new = (f : TableHeaderValue) (keys : List Key) → All (P f keys) old → All (P f keys) new

-- The same if it holds of one more item.
abbrev pub HoldsWith : {A : Type 0} → (TableHeaderValue → List Key → A → Type 0) → List A → A → List A → Type 0
HoldsWith P old x new = (f : TableHeaderValue) (keys : List Key) → All (P f keys) old → P f keys x → All (P f keys) new

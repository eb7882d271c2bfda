-- The dimensions of a cell, as the program reads them. (xBRL-CSV 1.0, dimensions of the facts of a
-- row)
use Rattle.std.specs.Prelude.{◌≡◌, List, ℕ, [], ◌++◌, reverse, Option, Result, Ok, Err}
use Rattle.std.specs.Borrow.{Bor}
use Rattle.std.specs.List.{fold}
use Rattle.oim_report.specs.declared.data.Level.{Level}
use Rattle.oim_report.specs.declared.kind.Kind.{Kind}
use Rattle.oim_resolve.specs.declared.fact.CellFault.{CellFault}
use Rattle.oim_resolve.specs.declared.cell.cell_at.CellAt.{CellAt}
use Rattle.oim_resolve.specs.Cell.{Cell}
use Rattle.oim_resolve.specs.Facts.{dimension_entry, dimension_faults, named_entry}
use Rattle.oim_resolve.specs.Faults.{least, unless}
use Rattle.oim_resolve.specs.ProgramCell.{held}
use Rattle.oim_resolve.specs.Written.{levels}
use Rattle.oim_resolve.specs.state.ProgramCell.{cell_at}
use Rattle.oim_resolve.specs.state.ProgramFaults.{both}

-- What a dimension gives a fact, or its least fault.
abbrev pub dimension_read : Cell → Kind → List ℕ → Result (Option (Option (List ℕ))) CellFault
dimension_read c k n = unless (least (dimension_faults c k n)) (Ok (dimension_entry c k n))

abbrev pub Dimensions : Type 0
Dimensions = List (List ℕ × Option (List ℕ))

-- A reading under its name.
abbrev pub named_read : List ℕ → Result (Option (Option (List ℕ))) CellFault → Result Dimensions CellFault
named_read n (Ok o) = Ok (named_entry n o)
named_read n (Err f) = Err f

-- What the dimensions of these names give, in their order, or their least fault.
abbrev pub dimensions_of : Cell → Kind → List (List ℕ) → Result Dimensions CellFault
dimensions_of c k ns = fold (λ r n. both (λ ds more. ds ++ more) r (named_read n (dimension_read c k n))) (Ok []) ns

-- The levels are those of the cell, from the most specific to the most general.
abbrev pub AreMet : CellAt → List (Bor Level) → Type 0
AreMet p ls = reverse (held ls) ≡ levels (cell_at p)

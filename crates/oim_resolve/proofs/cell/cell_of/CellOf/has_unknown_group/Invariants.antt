use Rattle.std.proofs.Common.{◌≡◌, drop}
use Rattle.std.specs.List.{list_any}
use Rattle.oim_resolve.specs.Cell.{meaning_at}
use Rattle.oim_resolve.specs.Facts.{is_unknown}
use Rattle.oim_resolve.specs.ProgramOrigins.{seen_cell}
use Rattle.oim_resolve.proofs.cell.cell_of.CellOf.has_unknown_group.Given as goal

abbrev pub invariant-loop-i : goal.invariant-loop-i
invariant-loop-i l =
    list_any (λ i. is_unknown (meaning_at (seen_cell l.self) i)) (drop l.i-index l.i-items) ≡ list_any (λ i. is_unknown (meaning_at (seen_cell l.self) i)) l.i-items

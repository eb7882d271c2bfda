use Rattle.std.proofs.Common.{◌≡◌, drop}
use Rattle.std.specs.List.{list_any}
use Rattle.oim_resolve.specs.Facts.{names_no_group}
use Rattle.oim_resolve.specs.ProgramOrigins.{seen_cell}
use Rattle.oim_resolve.proofs.cell.cell_of.CellOf.has_bad_group.Given as goal

abbrev pub invariant-loop-i : goal.invariant-loop-i
invariant-loop-i l = list_any (names_no_group (seen_cell l.self)) (drop l.i-index l.i-items) ≡ list_any (names_no_group (seen_cell l.self)) l.i-items

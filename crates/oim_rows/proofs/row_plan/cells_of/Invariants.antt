use Rattle.std.proofs.Common.{◌≡◌, map, take}
use Rattle.oim_rows.specs.RowFacts.{field_or_empty}
use Rattle.oim_rows.proofs.row_plan.cells_of.Given as goal

abbrev pub invariant-loop-source : goal.invariant-loop-source
invariant-loop-source g l = l.cells ≡ map (field_or_empty (g.C.Cells.cells l.row)) (take l.source-index l.sources)

use Rattle.std.proofs.Common.{◌≡◌, drop}
use Rattle.std.specs.List.{position_from}
use Rattle.oim_rows.specs.RowFacts.{is_not_text}
use Rattle.oim_rows.proofs.cells.first_not_text.Given as goal

abbrev pub invariant-loop-i : goal.invariant-loop-i
invariant-loop-i g l = position_from is_not_text 0 (g.C.Cells.cells l.row) ≡ position_from is_not_text l.i (drop l.i (g.C.Cells.cells l.row))

use Rattle.std.proofs.Common.{◌≡◌, drop}
use Rattle.std.specs.List.{position_from}
use Rattle.oim_report.specs.Readers.{columns_of}
use Rattle.oim_rows.specs.Header.{is_unknown}
use Rattle.oim_rows.proofs.header.first_unknown.Given as goal

abbrev pub invariant-loop-i : goal.invariant-loop-i
invariant-loop-i g l = position_from (is_unknown (columns_of l.report l.table)) 0 (g.C.Cells.cells l.row) ≡ position_from (is_unknown (columns_of l.report l.table)) l.i (drop l.i (g.C.Cells.cells l.row))

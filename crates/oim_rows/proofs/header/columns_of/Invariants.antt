use Rattle.std.proofs.Common.{◌≡◌, take}
use Rattle.oim_report.specs.Readers.{columns_of}
use Rattle.oim_rows.specs.Header.{header_of}
use Rattle.oim_rows.proofs.header.columns_of.Given as goal

abbrev pub invariant-loop-i : goal.invariant-loop-i
invariant-loop-i g l = l.header.items ≡ header_of (columns_of l.report l.table) (take l.i (g.C.Cells.cells l.row))

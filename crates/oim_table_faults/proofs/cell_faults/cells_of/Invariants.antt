use Rattle.std.proofs.Common.{◌≡◌, map}
use Rattle.std.specs.List.{range_with_len}
use Rattle.oim_rows.specs.RowFacts.{cell_at}
use Rattle.oim_table_faults.proofs.cell_faults.cells_of.Given as goal

abbrev pub invariant-loop-column : goal.invariant-loop-column
invariant-loop-column l = l.cells ≡ map (cell_at l.row.header.columns l.row.fields) (range_with_len 0 l.column)

use Rattle.std.proofs.Common.{◌≡◌, ◌++◌, drop}
use Rattle.oim_table_faults.specs.TableFaults.{cell_faults}
use Rattle.oim_table_faults.proofs.RowCells.{faults_from}
use Rattle.oim_table_faults.proofs.cell_faults.faults_of_cells.Given as goal

abbrev pub invariant-loop-place : goal.invariant-loop-place
invariant-loop-place l = cell_faults l.row.header l.row.number l.row.fields ≡ l.faults ++ faults_from l.row.header l.row.number l.row.fields l.place (drop l.place l.row.header.columns)

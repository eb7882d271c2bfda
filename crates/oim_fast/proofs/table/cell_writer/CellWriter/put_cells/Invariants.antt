use Rattle.std.proofs.Common.{◌≤◌, ◌+◌, vec_capacity, vec_len}
use Rattle.oim_fast.specs.state.CellWriters.{HasFacts, IsInRow}
use Rattle.oim_fast.proofs.table.cell_writer.CellWriter.put_cells.Given as goal

abbrev pub invariant-loop-i : goal.invariant-loop-i
invariant-loop-i l = record {
  row : IsInRow l.row l.self;
  facts : HasFacts l.row l.i l.fn.out.items l.out.items l.fn.ends.items l.ends.items;
  room : vec_len l.ends + l.count ≤ vec_capacity l.ends + l.i;
}

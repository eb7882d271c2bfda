use Rattle.std.proofs.Common.{◌≡◌}
use Rattle.oim_fast.specs.state.CellWriters.{GivesPart, IsInRow}
use Rattle.oim_fast.proofs.table.cell_writer.CellWriter.writes_part.Given as goal

abbrev pub invariant-loop-i : goal.invariant-loop-i
invariant-loop-i l = record {
  row : IsInRow l.row l.self;
  text : l.out.items ≡ l.fn.out.items;
  facts : GivesPart l.row l.from l.i;
}

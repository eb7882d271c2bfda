use Rattle.std.proofs.Common.{arith}
use Rattle.oim_fast.proofs.CellWriterLaws.{columns_length}
use Rattle.oim_fast.proofs.table.row_writer.RowWriter.writes_part.Goals as goal

pub writes_part-requires-clause-from : goal.writes_part-requires-clause-from
writes_part-requires-clause-from c =
    let x = c.args.row.now in
    let w = c.refresh.new.self in
    omega (arith, c.requires.from, columns_length x.header w.maker.cells.list.items w.columns.items c.in_ok-refresh.ensures.row.columns)

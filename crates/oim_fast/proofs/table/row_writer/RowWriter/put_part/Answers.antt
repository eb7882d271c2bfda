use Rattle.std.proofs.Common.{◌<◌, ℕ, IfOk, IfSome, arith, length, subst}
use Rattle.oim_fast.proofs.CellWriterLaws.{columns_length}
use Rattle.oim_fast.proofs.table.row_writer.RowWriter.put_part.Goals as goal

pub put_part-requires-clause-from : goal.put_part-requires-clause-from
put_part-requires-clause-from c =
    let x = c.args.row.now in
    let w = c.refresh.new.self in
    omega (arith, c.requires.from, columns_length x.header w.maker.cells.list.items w.columns.items c.in_ok-refresh.ensures.row.columns)

pub returns-clause-long : goal.returns-clause-long
returns-clause-long c =
    let x = c.args.row.now in
    let w = c.refresh.new.self in
    subst (λ (n : ℕ). IfOk c.put_part.result (λ o. IfSome o (λ next. next < n → c.args.most < length c.put_part.new.out.items)))
    (columns_length x.header w.maker.cells.list.items w.columns.items c.in_ok-refresh.ensures.row.columns) c.put_part.ensures.long

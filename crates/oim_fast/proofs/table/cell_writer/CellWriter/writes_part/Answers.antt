use Rattle.std.proofs.Common.{◌<◌, ◌≤◌, ◌∙◌, length, arith, refl}
use Rattle.oim_fast.specs.state.CellWriters.{column_at}
use Rattle.oim_fast.specs.Facts.{fact_columns_in}
use Rattle.oim_fast.proofs.CellWriterLaws.{again, cell_done, cell_failed, cell_left, columns_length, taken_back}
use Rattle.oim_fast.proofs.LoopLaws.{all_seen, seen_next, seen_none}
use Rattle.oim_fast.proofs.table.cell_writer.CellWriter.writes_part.Goals as goal

pub put_cell-requires-clause-within : goal.put_cell-requires-clause-within
put_cell-requires-clause-within c =
    let x = c.args.row.now in
    let i = c.loop-i.i in
    let so = c.loop-i.invariant in
    omega (arith, c.len-i-end.ensures, columns_length x.header c.args.self.now.maker.cells.list.items c.args.self.now.columns.items c.requires.row.columns, columns_length x.header c.loop-i.self.maker.cells.list.items c.loop-i.self.columns.items so.row.columns)

pub returns-in_err-done-clause-header : goal.returns-in_err-done-clause-header
returns-in_err-done-clause-header c = again c.args.row.now _ c.put_cell.ensures.row

pub returns-then-not-done-clause-header : goal.returns-then-not-done-clause-header
returns-then-not-done-clause-header c = again c.args.row.now _ c.put_cell.ensures.row

pub returns-clause-header : goal.returns-clause-header
returns-clause-header c = again c.args.row.now _ c.loop-i.invariant.row

pub returns-in_err-done-clause-text : goal.returns-in_err-done-clause-text
returns-in_err-done-clause-text c =
    let x = c.args.row.now in
    let i = c.loop-i.i in
    cell_failed x (column_at x.header i) c.loop-i.out.items c.put_cell.new.out.items c.put_cell.result _ c.put_cell.ensures.cell c.in_err-done.was ∙ c.loop-i.invariant.text

pub returns-then-not-done-clause-text : goal.returns-then-not-done-clause-text
returns-then-not-done-clause-text c =
    let x = c.args.row.now in
    let i = c.loop-i.i in
    cell_left x (column_at x.header i) c.loop-i.out.items c.put_cell.new.out.items c.put_cell.result c.in_ok-done.done c.put_cell.ensures.cell c.in_ok-done.was c.if-not-done.true ∙ c.loop-i.invariant.text

pub returns-clause-facts : goal.returns-clause-facts
returns-clause-facts c = λ _.
    let x = c.args.row.now in
    let i = c.loop-i.i in
    all_seen x c.args.from i (omega (arith, c.len-i-end.ensures, columns_length x.header c.args.self.now.maker.cells.list.items c.args.self.now.columns.items c.requires.row.columns)) c.loop-i.invariant.facts

pub loop-i-preserved : goal.loop-i-preserved
loop-i-preserved c =
    let x = c.args.row.now in
    let i = c.loop-i.i in
    let so = c.loop-i.invariant in
    let wrote = cell_done x (column_at x.header i) c.loop-i.out.items c.put_cell.new.out.items c.put_cell.result c.in_ok-done.done c.put_cell.ensures.cell c.in_ok-done.was c.if-not-done.false in
    let lt : i < length (fact_columns_in x.header x.header.columns) =
    omega (arith, c.len-i-end.ensures, columns_length x.header c.args.self.now.maker.cells.list.items c.args.self.now.columns.items c.requires.row.columns) in
    record {
      row = c.put_cell.ensures.row;
      text = c.truncate.ensures.items ∙ taken_back c.loop-i.out.items c.put_cell.new.out.items c.len-before.result c.len-before.ensures wrote ∙ so.text;
      facts = seen_next x c.args.from i c.loop-i.out.items c.put_cell.new.out.items lt so.facts wrote;
    }

pub loop-i-init : goal.loop-i-init
loop-i-init c =
    let x = c.args.row.now in
    let within : c.args.from ≤ length (fact_columns_in x.header x.header.columns) =
    omega (arith, c.requires.from, columns_length x.header c.args.self.now.maker.cells.list.items c.args.self.now.columns.items c.requires.row.columns) in
    record { row = c.requires.row; text = refl; facts = seen_none x c.args.from within }

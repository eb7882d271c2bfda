use Rattle.std.proofs.Common.{◌<◌, ◌∙◌, ◌++◌, ◌∷◌, [], ℕ, List, length, sym, ap, subst, arith}
use mathlib.Core.List.{IsPrefix}
use Rattle.oim_fast.specs.state.CellWriters.{HasFacts, column_at}
use Rattle.oim_fast.specs.Facts.{fact_columns_in}
use Rattle.oim_fast.proofs.CellWriterLaws.{again, cell_done, cell_failed, cell_left, columns_length}
use Rattle.oim_fast.proofs.LoopLaws.{all_given, ends_stay, none_yet, one_more, text_stays}
use Rattle.oim_fast.proofs.table.cell_writer.CellWriter.put_cells.Goals as goal

pub put_cell-requires-clause-within : goal.put_cell-requires-clause-within
put_cell-requires-clause-within c =
    let x = c.args.row.now in
    let i = c.loop-i.i in
    let so = c.loop-i.invariant in
    omega (arith, c.len-count.ensures, columns_length x.header c.args.self.now.maker.cells.list.items c.args.self.now.columns.items c.requires.columns, columns_length x.header c.loop-i.self.maker.cells.list.items c.loop-i.self.columns.items so.row.columns)

pub returns-in_err-done-clause-header : goal.returns-in_err-done-clause-header
returns-in_err-done-clause-header c = again c.args.row.now _ c.put_cell.ensures.row

pub returns-then-not-done-clause-header : goal.returns-then-not-done-clause-header
returns-then-not-done-clause-header c = again c.args.row.now _ c.put_cell.ensures.row

pub returns-in_err-reserve-clause-header : goal.returns-in_err-reserve-clause-header
returns-in_err-reserve-clause-header c = again c.args.row.now c.args.self.now c.requires

pub returns-clause-header : goal.returns-clause-header
returns-clause-header c = again c.args.row.now _ c.loop-i.invariant.row

pub returns-in_err-done-clause-front : goal.returns-in_err-done-clause-front
returns-in_err-done-clause-front c =
    let x = c.args.row.now in
    let i = c.loop-i.i in
    let so = c.loop-i.invariant in
    let left = cell_failed x (column_at x.header i) c.loop-i.out.items c.put_cell.new.out.items c.put_cell.result _ c.put_cell.ensures.cell c.in_err-done.was in
    (subst (IsPrefix c.args.out.now.items) (sym left) (text_stays so.facts), ends_stay so.facts)

pub returns-then-not-done-clause-front : goal.returns-then-not-done-clause-front
returns-then-not-done-clause-front c =
    let x = c.args.row.now in
    let i = c.loop-i.i in
    let so = c.loop-i.invariant in
    let left = cell_left x (column_at x.header i) c.loop-i.out.items c.put_cell.new.out.items c.put_cell.result c.in_ok-done.done c.put_cell.ensures.cell c.in_ok-done.was c.if-not-done.true in
    (subst (IsPrefix c.args.out.now.items) (sym left) (text_stays so.facts), ends_stay so.facts)

pub returns-clause-front : goal.returns-clause-front
returns-clause-front c = (text_stays c.loop-i.invariant.facts, ends_stay c.loop-i.invariant.facts)

pub returns-clause-facts : goal.returns-clause-facts
returns-clause-facts c = λ _.
    let x = c.args.row.now in
    let i = c.loop-i.i in
    let so = c.loop-i.invariant in
    all_given x i c.args.out.now.items c.loop-i.out.items c.args.ends.now.items c.loop-i.ends.items
    (omega (arith, c.len-count.ensures, columns_length x.header c.args.self.now.maker.cells.list.items c.args.self.now.columns.items c.requires.columns)) so.facts

pub note_end-requires : goal.note_end-requires
note_end-requires c = omega (arith, c.loop-i.invariant.room, c.loop-i-test.true)

pub loop-i-preserved : goal.loop-i-preserved
loop-i-preserved c =
    let x = c.args.row.now in
    let i = c.loop-i.i in
    let so = c.loop-i.invariant in
    let wrote = cell_done x (column_at x.header i) c.loop-i.out.items c.put_cell.new.out.items c.put_cell.result c.in_ok-done.done c.put_cell.ensures.cell c.in_ok-done.was c.if-not-done.false in
    let lt : i < length (fact_columns_in x.header x.header.columns) =
    omega (arith, c.len-count.ensures, columns_length x.header c.args.self.now.maker.cells.list.items c.args.self.now.columns.items c.requires.columns) in
    record {
      row = c.put_cell.ensures.row;
      facts = one_more x i c.args.out.now.items c.loop-i.out.items c.put_cell.new.out.items c.args.ends.now.items c.loop-i.ends.items c.note_end.new.ends.items lt so.facts wrote
          (λ h. c.note_end.ensures.more (omega (arith, h, c.len-before.ensures, c.len-end.ensures)) ∙ ap (λ (m : ℕ). c.loop-i.ends.items ++ m ∷ []) c.len-end.ensures)
          (λ h. c.note_end.ensures.none (omega (arith, h, c.len-before.ensures, c.len-end.ensures)));
      room = omega (arith, so.room, c.note_end.ensures.len, c.note_end.ensures.capacity);
    }

pub loop-i-init : goal.loop-i-init
loop-i-init c =
    let x = c.args.row.now in
    record {
      row = c.requires;
      facts = subst (λ (ns : List ℕ). HasFacts x 0 c.args.out.now.items c.args.out.now.items c.args.ends.now.items ns) (sym c.reserve.ensures.items) (none_yet x c.args.out.now.items c.args.ends.now.items);
      room = omega (arith, c.in_ok-reserve.ensures.ok, c.len-count.ensures);
    }

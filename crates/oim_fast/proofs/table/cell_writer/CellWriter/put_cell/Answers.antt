use Rattle.std.proofs.Common.{◌≡◌, ◌∙◌, ℕ, Option, Some, IfSome, [], true, map, take, get_or, sym, ap, subst, arith}
use Rattle.oim_cells.specs.Cells.{Meaning, meaning_of}
use Rattle.oim_report.specs.declared.kind.Kind.{Kind}
use Rattle.oim_resolve.specs.Facts.{cell_result, fact_meaning, is_absent}
use Rattle.oim_rows.specs.RowFacts.{field_or_empty}
use Rattle.oim_fast.specs.state.CellValues.{IsValue}
use Rattle.oim_fast.specs.state.CellWriters.{PutsCell, column_at}
use Rattle.oim_fast.specs.state.Columns.{IsFactColumn}
use Rattle.oim_fast.specs.state.Facts.{WritesFact}
use Rattle.oim_fast.specs.state.FrameTexts.{FrameValue}
use Rattle.oim_fast.specs.state.KeptFrames.{IsTextFor, text_in}
use Rattle.oim_row.specs.References.{key_of}
use Rattle.oim_row.specs.state.Rows.{cell_in}
use Rattle.oim_fast.specs.declared.frame.fact_column.FactColumn.{FactColumn}
use Rattle.oim_row.specs.declared.group_cells.GroupCells.{GroupCells}
use Rattle.oim_fast.proofs.CellWriterLaws.{cell_meaning, column_set, column_there, nothing_written, of_references, puts_fact, puts_said, value_is_plain}
use Rattle.oim_row.proofs.Texts.{empty_meaning}
use Rattle.oim_fast.proofs.table.cell_writer.CellWriter.put_cell.Goals as goal

pub returns-then-size-eq0-clause-cell : goal.returns-then-size-eq0-clause-cell
returns-then-size-eq0-clause-cell g c =
    let x = c.args.row.now in
    let old = c.args.self.now in
    let k = c.index_mut-column.result.now in
    let is : k ≡ get_or old.columns.items c.args.i k = c.index_mut-column.ensures.value in
    let there : k.column ≡ column_at x.header c.args.i = column_there x.header old.maker.cells.list.items old.columns.items c.args.i k c.requires.row.columns c.requires.within is in
    let column : IsFactColumn x.header old.maker.cells.list.items k = subst (IsFactColumn x.header old.maker.cells.list.items) (sym is) (c.requires.row.columns.are c.args.i k c.requires.within) in
    let field = field_or_empty x.fields (Some k.place) in
    let means : meaning_of field ≡ fact_meaning (cell_in x k.column) = cell_meaning x old.maker.cells.list.items k column in
    let size : c.bytes_at-size.result.1 ≡ 0 = omega arith in
    let none : [] ≡ field = subst (λ (n : ℕ). take n c.bytes_at-size.result.0.now ≡ field) size c.bytes_at-size.ensures.bytes in
    let absent : is_absent (fact_meaning (cell_in x k.column)) ≡ true = ap is_absent (sym means ∙ ap meaning_of (sym none) ∙ empty_meaning) in
    subst (λ (n : ℕ). WritesFact (cell_result (cell_in x n)) c.args.out.now.items c.args.out.now.items) there (nothing_written x k.column c.args.out.now.items absent)

pub returns-in_err-at-clause-row : goal.returns-in_err-at-clause-row
returns-in_err-at-clause-row g c =
    let x = c.args.row.now in
    let old = c.args.self.now in
    let k = c.index_mut-column.result.now in
    let is : k ≡ get_or old.columns.items c.args.i k = c.index_mut-column.ensures.value in
    record {
      columns = column_set x.header old.maker.cells.list.items c.frame_for.new.maker.cells.list.items old.columns.items c.args.i k c.frame_for.new.column c.requires.row.columns c.requires.within is
          (ap (λ (g : GroupCells). g.list.items) c.frame_for.ensures.cells) (ap (λ (q : FactColumn). q.column) c.frame_for.ensures.same) c.frame_for.ensures.column;
      maker = c.frame_for.ensures.maker;
      frames = c.frame_for.ensures.frames;
      lead = c.requires.row.lead;
      start = c.requires.row.start;
      number = c.requires.row.number;
    }

pub returns-then-has_none-clause-row : goal.returns-then-has_none-clause-row
returns-then-has_none-clause-row g c =
    let x = c.args.row.now in
    let old = c.args.self.now in
    let k = c.index_mut-column.result.now in
    let is : k ≡ get_or old.columns.items c.args.i k = c.index_mut-column.ensures.value in
    record {
      columns = column_set x.header old.maker.cells.list.items c.frame_for.new.maker.cells.list.items old.columns.items c.args.i k c.frame_for.new.column c.requires.row.columns c.requires.within is
          (ap (λ (g : GroupCells). g.list.items) c.frame_for.ensures.cells) (ap (λ (q : FactColumn). q.column) c.frame_for.ensures.same) c.frame_for.ensures.column;
      maker = c.frame_for.ensures.maker;
      frames = c.frame_for.ensures.frames;
      lead = c.requires.row.lead;
      start = c.requires.row.start;
      number = c.requires.row.number;
    }

pub returns-then-has_none-clause-cell : goal.returns-then-has_none-clause-cell
returns-then-has_none-clause-cell g c =
    let x = c.args.row.now in
    let old = c.args.self.now in
    let k = c.index_mut-column.result.now in
    let is : k ≡ get_or old.columns.items c.args.i k = c.index_mut-column.ensures.value in
    let there : k.column ≡ column_at x.header c.args.i = column_there x.header old.maker.cells.list.items old.columns.items c.args.i k c.requires.row.columns c.requires.within is in
    let column : IsFactColumn x.header old.maker.cells.list.items k = subst (IsFactColumn x.header old.maker.cells.list.items) (sym is) (c.requires.row.columns.are c.args.i k c.requires.within) in
    let absent : is_absent (fact_meaning (cell_in x k.column)) ≡ true = ap is_absent (sym (cell_meaning x old.maker.cells.list.items k column)) ∙ sym c.has_none.ensures ∙ c.if-has_none.true in
    subst (λ (n : ℕ). WritesFact (cell_result (cell_in x n)) c.args.out.now.items c.args.out.now.items) there (nothing_written x k.column c.args.out.now.items absent)

pub returns-in_default-clause-row : goal.returns-in_default-clause-row
returns-in_default-clause-row g c =
    let x = c.args.row.now in
    let old = c.args.self.now in
    let k = c.index_mut-column.result.now in
    let is : k ≡ get_or old.columns.items c.args.i k = c.index_mut-column.ensures.value in
    record {
      columns = column_set x.header old.maker.cells.list.items c.frame_for.new.maker.cells.list.items old.columns.items c.args.i k c.frame_for.new.column c.requires.row.columns c.requires.within is
          (ap (λ (g : GroupCells). g.list.items) c.frame_for.ensures.cells) (ap (λ (q : FactColumn). q.column) c.frame_for.ensures.same) c.frame_for.ensures.column;
      maker = c.frame_for.ensures.maker;
      frames = c.frame_for.ensures.frames;
      lead = c.requires.row.lead;
      start = c.requires.row.start;
      number = c.requires.row.number;
    }

pub returns-then-has_none-2-clause-row : goal.returns-then-has_none-2-clause-row
returns-then-has_none-2-clause-row g c =
    let x = c.args.row.now in
    let old = c.args.self.now in
    let k = c.index_mut-column.result.now in
    let is : k ≡ get_or old.columns.items c.args.i k = c.index_mut-column.ensures.value in
    record {
      columns = column_set x.header old.maker.cells.list.items c.frame_for.new.maker.cells.list.items old.columns.items c.args.i k c.frame_for.new.column c.requires.row.columns c.requires.within is
          (ap (λ (g : GroupCells). g.list.items) c.frame_for.ensures.cells) (ap (λ (q : FactColumn). q.column) c.frame_for.ensures.same) c.frame_for.ensures.column;
      maker = c.frame_for.ensures.maker;
      frames = c.frame_for.ensures.frames;
      lead = c.requires.row.lead;
      start = c.requires.row.start;
      number = c.requires.row.number;
    }

pub returns-then-has_none-2-clause-cell : goal.returns-then-has_none-2-clause-cell
returns-then-has_none-2-clause-cell g c =
    let x = c.args.row.now in
    let old = c.args.self.now in
    let k = c.index_mut-column.result.now in
    let is : k ≡ get_or old.columns.items c.args.i k = c.index_mut-column.ensures.value in
    let there : k.column ≡ column_at x.header c.args.i = column_there x.header old.maker.cells.list.items old.columns.items c.args.i k c.requires.row.columns c.requires.within is in
    let column : IsFactColumn x.header old.maker.cells.list.items k = subst (IsFactColumn x.header old.maker.cells.list.items) (sym is) (c.requires.row.columns.are c.args.i k c.requires.within) in
    let absent : is_absent (fact_meaning (cell_in x k.column)) ≡ true = ap is_absent (sym (cell_meaning x old.maker.cells.list.items k column)) ∙ sym c.has_none-in_default-text.ensures ∙ c.if-has_none-2.true in
    subst (λ (n : ℕ). WritesFact (cell_result (cell_in x n)) c.args.out.now.items c.args.out.now.items) there (nothing_written x k.column c.args.out.now.items absent)

pub returns-in_default-text-clause-row : goal.returns-in_default-text-clause-row
returns-in_default-text-clause-row g c =
    let x = c.args.row.now in
    let old = c.args.self.now in
    let k = c.index_mut-column.result.now in
    let is : k ≡ get_or old.columns.items c.args.i k = c.index_mut-column.ensures.value in
    record {
      columns = column_set x.header old.maker.cells.list.items c.frame_for.new.maker.cells.list.items old.columns.items c.args.i k c.frame_for.new.column c.requires.row.columns c.requires.within is
          (ap (λ (g : GroupCells). g.list.items) c.frame_for.ensures.cells) (ap (λ (q : FactColumn). q.column) c.frame_for.ensures.same) c.frame_for.ensures.column;
      maker = c.frame_for.ensures.maker;
      frames = c.frame_for.ensures.frames;
      lead = c.requires.row.lead;
      start = c.requires.row.start;
      number = c.requires.row.number;
    }

pub returns-in-Some-quick_value-clause-row : goal.returns-in-Some-quick_value-clause-row
returns-in-Some-quick_value-clause-row g c =
    let x = c.args.row.now in
    let old = c.args.self.now in
    let k = c.index_mut-column.result.now in
    let is : k ≡ get_or old.columns.items c.args.i k = c.index_mut-column.ensures.value in
    record {
      columns = column_set x.header old.maker.cells.list.items c.frame_for.new.maker.cells.list.items old.columns.items c.args.i k c.frame_for.new.column c.requires.row.columns c.requires.within is
          (ap (λ (g : GroupCells). g.list.items) c.frame_for.ensures.cells) (ap (λ (q : FactColumn). q.column) c.frame_for.ensures.same) c.frame_for.ensures.column;
      maker = c.frame_for.ensures.maker;
      frames = c.frame_for.ensures.frames;
      lead = c.requires.row.lead;
      start = c.requires.row.start;
      number = c.requires.row.number;
    }

pub returns-clause-row : goal.returns-clause-row
returns-clause-row g c =
    let x = c.args.row.now in
    let old = c.args.self.now in
    let k = c.index_mut-column.result.now in
    let is : k ≡ get_or old.columns.items c.args.i k = c.index_mut-column.ensures.value in
    record {
      columns = column_set x.header old.maker.cells.list.items c.frame_for.new.maker.cells.list.items old.columns.items c.args.i k c.frame_for.new.column c.requires.row.columns c.requires.within is
          (ap (λ (g : GroupCells). g.list.items) c.frame_for.ensures.cells) (ap (λ (q : FactColumn). q.column) c.frame_for.ensures.same) c.frame_for.ensures.column;
      maker = c.frame_for.ensures.maker;
      frames = c.frame_for.ensures.frames;
      lead = c.requires.row.lead;
      start = c.requires.row.start;
      number = c.requires.row.number;
    }

pub put_fact-requires-clause-plain : goal.put_fact-requires-clause-plain
put_fact-requires-clause-plain g c =
    let x = c.args.row.now in
    let old = c.args.self.now in
    let k = c.index_mut-column.result.now in
    let is : k ≡ get_or old.columns.items c.args.i k = c.index_mut-column.ensures.value in
    let there : k.column ≡ column_at x.header c.args.i = column_there x.header old.maker.cells.list.items old.columns.items c.args.i k c.requires.row.columns c.requires.within is in
    let column : IsFactColumn x.header old.maker.cells.list.items k = subst (IsFactColumn x.header old.maker.cells.list.items) (sym is) (c.requires.row.columns.are c.args.i k c.requires.within) in
    let field = field_or_empty x.fields (Some k.place) in
    let means : meaning_of field ≡ fact_meaning (cell_in x k.column) = cell_meaning x old.maker.cells.list.items k column in
    let rs = c.frame_for.new.maker.references in
    let vs = c.frame_for.new.self.list.items in
    let t = c.in-Some-text.frame.now in
    let first : IfSome (text_in vs c.in-Some.at) (IsTextFor x (map key_of rs) k.column) = subst (λ (o : Option ℕ). IfSome o (λ place. IfSome (text_in vs place) (IsTextFor x (map key_of rs) k.column))) c.in-Some.is c.in_ok-at.ensures.text in
    let text : IsTextFor x (map key_of rs) k.column t = subst (λ (o : Option FrameValue). IfSome o (IsTextFor x (map key_of rs) k.column)) c.in-Some-text.ensures first in
    let kind : c.frame.inside.kind ≡ t.kind = ap (λ (q : FrameValue). q.kind) c.frame.view_is in
    let v = c.in-Some-quick_value.value in
    let value : IsValue x.header.report t.kind (meaning_of field) v = subst (λ (q : Kind). IsValue x.header.report q (meaning_of field) v) kind (c.in-Some-quick_value.ensures c.frame.inside.kind (sym c.frame.invariant.form)) in
    value_is_plain x.header.report t.kind (meaning_of field) v value

pub put_fact-requires-clause-references : goal.put_fact-requires-clause-references
put_fact-requires-clause-references g c =
    let x = c.args.row.now in
    let old = c.args.self.now in
    let k = c.index_mut-column.result.now in
    let is : k ≡ get_or old.columns.items c.args.i k = c.index_mut-column.ensures.value in
    let rs = c.frame_for.new.maker.references in
    let vs = c.frame_for.new.self.list.items in
    let t = c.in-Some-text.frame.now in
    let first : IfSome (text_in vs c.in-Some.at) (IsTextFor x (map key_of rs) k.column) = subst (λ (o : Option ℕ). IfSome o (λ place. IfSome (text_in vs place) (IsTextFor x (map key_of rs) k.column))) c.in-Some.is c.in_ok-at.ensures.text in
    let text : IsTextFor x (map key_of rs) k.column t = subst (λ (o : Option FrameValue). IfSome o (IsTextFor x (map key_of rs) k.column)) c.in-Some-text.ensures first in
    of_references x.header rs _ _ t text.text

pub returns-in-Some-quick_value-clause-cell : goal.returns-in-Some-quick_value-clause-cell
returns-in-Some-quick_value-clause-cell g c =
    let x = c.args.row.now in
    let old = c.args.self.now in
    let k = c.index_mut-column.result.now in
    let is : k ≡ get_or old.columns.items c.args.i k = c.index_mut-column.ensures.value in
    let there : k.column ≡ column_at x.header c.args.i = column_there x.header old.maker.cells.list.items old.columns.items c.args.i k c.requires.row.columns c.requires.within is in
    let column : IsFactColumn x.header old.maker.cells.list.items k = subst (IsFactColumn x.header old.maker.cells.list.items) (sym is) (c.requires.row.columns.are c.args.i k c.requires.within) in
    let field = field_or_empty x.fields (Some k.place) in
    let means : meaning_of field ≡ fact_meaning (cell_in x k.column) = cell_meaning x old.maker.cells.list.items k column in
    let rs = c.frame_for.new.maker.references in
    let vs = c.frame_for.new.self.list.items in
    let t = c.in-Some-text.frame.now in
    let first : IfSome (text_in vs c.in-Some.at) (IsTextFor x (map key_of rs) k.column) = subst (λ (o : Option ℕ). IfSome o (λ place. IfSome (text_in vs place) (IsTextFor x (map key_of rs) k.column))) c.in-Some.is c.in_ok-at.ensures.text in
    let text : IsTextFor x (map key_of rs) k.column t = subst (λ (o : Option FrameValue). IfSome o (IsTextFor x (map key_of rs) k.column)) c.in-Some-text.ensures first in
    let kind : c.frame.inside.kind ≡ t.kind = ap (λ (q : FrameValue). q.kind) c.frame.view_is in
    let v = c.in-Some-quick_value.value in
    let value : IsValue x.header.report t.kind (meaning_of field) v = subst (λ (q : Kind). IsValue x.header.report q (meaning_of field) v) kind (c.in-Some-quick_value.ensures c.frame.inside.kind (sym c.frame.invariant.form)) in
    let meant : IsValue x.header.report t.kind (fact_meaning (cell_in x k.column)) v = subst (λ (m : Meaning). IsValue x.header.report t.kind m v) means value in
    subst (λ (n : ℕ). PutsCell x n c.args.out.now.items c.put_fact.new.out.items c.put_fact.result) there
    (puts_fact x old.maker.cells.list.items k rs t v old.start.start.items c.args.out.now.items c.put_fact.new.out.items c.requires.row.number column c.frame_for.ensures.maker.fresh text meant c.requires.row.start
    c.put_fact.result c.put_fact.ensures)

pub put_rare-requires : goal.put_rare-requires
put_rare-requires g c =
    let x = c.args.row.now in
    let old = c.args.self.now in
    let k = c.index_mut-column.result.now in
    let rs = c.frame_for.new.maker.references in
    let vs = c.frame_for.new.self.list.items in
    let t = c.in-Some-text.frame.now in
    let first : IfSome (text_in vs c.in-Some.at) (IsTextFor x (map key_of rs) k.column) = subst (λ (o : Option ℕ). IfSome o (λ place. IfSome (text_in vs place) (IsTextFor x (map key_of rs) k.column))) c.in-Some.is c.in_ok-at.ensures.text in
    let text : IsTextFor x (map key_of rs) k.column t = subst (λ (o : Option FrameValue). IfSome o (IsTextFor x (map key_of rs) k.column)) c.in-Some-text.ensures first in
    of_references x.header rs _ _ t text.text

pub returns-clause-cell : goal.returns-clause-cell
returns-clause-cell g c =
    let x = c.args.row.now in
    let old = c.args.self.now in
    let k = c.index_mut-column.result.now in
    let is : k ≡ get_or old.columns.items c.args.i k = c.index_mut-column.ensures.value in
    let there : k.column ≡ column_at x.header c.args.i = column_there x.header old.maker.cells.list.items old.columns.items c.args.i k c.requires.row.columns c.requires.within is in
    let column : IsFactColumn x.header old.maker.cells.list.items k = subst (IsFactColumn x.header old.maker.cells.list.items) (sym is) (c.requires.row.columns.are c.args.i k c.requires.within) in
    let rs = c.frame_for.new.maker.references in
    let vs = c.frame_for.new.self.list.items in
    let t = c.in-Some-text.frame.now in
    let first : IfSome (text_in vs c.in-Some.at) (IsTextFor x (map key_of rs) k.column) = subst (λ (o : Option ℕ). IfSome o (λ place. IfSome (text_in vs place) (IsTextFor x (map key_of rs) k.column))) c.in-Some.is c.in_ok-at.ensures.text in
    let text : IsTextFor x (map key_of rs) k.column t = subst (λ (o : Option FrameValue). IfSome o (IsTextFor x (map key_of rs) k.column)) c.in-Some-text.ensures first in
    subst (λ (n : ℕ). PutsCell x n c.args.out.now.items c.put_rare.new.out.items c.put_rare.result) there
    (puts_said x old.maker.cells.list.items k rs t old.start.start.items c.args.out.now.items c.put_rare.new.out.items c.requires.row.number column c.frame_for.ensures.maker.fresh text c.requires.row.start
    c.put_rare.result (rw c.text_at-cell.ensures at c.put_rare.ensures))

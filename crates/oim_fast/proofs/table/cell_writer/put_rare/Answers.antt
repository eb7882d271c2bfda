use Rattle.std.proofs.Common.{◌≡◌, ap, subst}
use Rattle.oim_cells.specs.Cells.{meaning_of}
use Rattle.oim_report.specs.declared.kind.Kind.{Kind}
use Rattle.oim_fast.specs.state.CellValues.{IsCellValue, IsValue}
use Rattle.oim_fast.specs.state.FrameTexts.{FrameValue}
use Rattle.oim_fast.proofs.CellWriterLaws.{value_is_plain, value_said}
use Rattle.oim_fast.proofs.table.cell_writer.put_rare.Goals as goal

pub put_fact-requires-clause-plain : goal.put_fact-requires-clause-plain
put_fact-requires-clause-plain c =
    let r = c.args.row.now.header.report in
    let m = meaning_of c.args.cell.now in
    let kind : c.frame.inside.kind ≡ c.args.frame.now.kind = ap (λ (q : FrameValue). q.kind) c.frame.view_is in
    let v = c.in-Value.value in
    let said : IsValue r c.frame.inside.kind m v = subst (IsCellValue r c.frame.inside.kind m) c.in-Value.is c.in_ok-value.ensures in
    value_is_plain r c.args.frame.now.kind m v (subst (λ (q : Kind). IsValue r q m v) kind said)

pub returns-in-Value : goal.returns-in-Value
returns-in-Value c =
    let x = c.args.row.now in
    let r = x.header.report in
    let m = meaning_of c.args.cell.now in
    let kind : c.frame.inside.kind ≡ c.args.frame.now.kind = ap (λ (q : FrameValue). q.kind) c.frame.view_is in
    let v = c.in-Value.value in
    let said : IsValue r c.frame.inside.kind m v = subst (IsCellValue r c.frame.inside.kind m) c.in-Value.is c.in_ok-value.ensures in
    value_said x c.args.references.now c.args.frame.now v c.args.start.now.items c.args.cell.now c.args.out.now.items c.put_fact.new.out.items (subst (λ (q : Kind). IsValue r q m v) kind said) c.put_fact.result c.put_fact.ensures

use Rattle.std.proofs.Common.{◌≡◌, ℕ, sym, ap, ◌∙◌, subst, List}
use Rattle.std.specs.Map.{keys_of}
use Rattle.oim_report.proofs.GroupOrder.{groups_rise}
use Rattle.oim_report.specs.InOrder.{PartsRise}
use Rattle.oim_report.specs.Readers.{column_of}
use Rattle.oim_report.specs.ReportValue.{ReportValue}
use Rattle.oim_report.specs.Rising.{IsRising}
use Rattle.oim_report.specs.declared.data.Column.{Column}
use Rattle.oim_report.specs.declared.data.Level.{Level}
use Rattle.oim_row.specs.Groups.{IsGroupCell}
use Rattle.oim_row.specs.Rows.{column_in}
use Rattle.oim_row.proofs.Growth.{all_push}
use Rattle.oim_row.proofs.group_cells.GroupCells.place_for.Goals as goal

pub returns-clause-cells : goal.returns-clause-cells
returns-clause-cells c =
    let header = c.args.header.now in
    let column = c.args.column in
    let is : c.column.result.now ≡ column_in header column =
    c.column.ensures.column ∙ ap (λ (r : ReportValue). column_of r c.table-2.result column) c.report-3.ensures ∙ ap (λ (t : ℕ). column_of header.report t column) c.table-2.ensures.value in
    let groups : c.as_slice.result.now ≡ (column_in header column).groups = c.as_slice.ensures ∙ ap (λ (k : Column). k.groups) is in
    let order : PartsRise header.report.level header.report.templates header.report.tables =
    subst (λ (r : ReportValue). PartsRise r.level r.templates r.tables) c.report.ensures c.stands_in_order.ensures.order in
    rw (c.in_ok-push.ensures.items, c.note.ensures) (all_push (IsGroupCell header) c.args.self.now.list.items _ c.requires.cells (record {
      range = c.requires.column;
      place = c.source.ensures;
      groups = groups;
      rising = subst (λ (gs : List (List ℕ × Level)). IsRising (keys_of gs)) (sym groups) (groups_rise header.report order header.table column);
    }))

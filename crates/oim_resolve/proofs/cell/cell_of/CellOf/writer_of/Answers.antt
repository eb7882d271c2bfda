use Rattle.std.proofs.Common.{None, ap, subst, sym, ◌∙◌}
use Rattle.std.specs.Option.{option_or}
use Rattle.oim_report.specs.InOrder.{LevelRises}
use Rattle.oim_report.specs.declared.data.Column.{Column}
use Rattle.oim_resolve.specs.ProgramOrigins.{seen_cell}
use Rattle.oim_resolve.specs.Writers.{writes}
use Rattle.oim_resolve.proofs.LevelOrder.{column_level_rises, report_rises, template_rises}
use Rattle.oim_resolve.proofs.WriterLevels.{chosen, writer_found}
use Rattle.oim_resolve.proofs.cell.cell_of.CellOf.writer_of.Goals as goal

pub written_at-requires : goal.written_at-requires
written_at-requires c =
    let p = c.args.self.now in
    subst (λ (k : Column). LevelRises k.level) (sym c.column-column.ensures.column) (column_level_rises p.report.now c.stands_in_order.ensures.order p.table p.column)

pub written_at-of_template-requires : goal.written_at-of_template-requires
written_at-of_template-requires c =
    let p = c.args.self.now in
    subst LevelRises (sym c.template_level.ensures) (template_rises p.report.now c.stands_in_order.ensures.order p.table)

pub written_at-of_report-requires : goal.written_at-of_report-requires
written_at-of_report-requires c = subst LevelRises (sym c.report_level.ensures) (report_rises c.args.self.now.report.now c.stands_in_order.ensures.order)

pub returns : goal.returns
returns c =
    let cell = seen_cell c.args.self.now in
    let found = c.or-2.ensures ∙ ap (λ o. option_or o c.written_at-of_report.result) c.or.ensures in
    let w = chosen (writes c.args.name.now) cell _ _ _ _ None _ _ _ (ap (λ (k : Column). k.level) c.column-column.ensures.column) c.template_level.ensures c.report_level.ensures
    found c.in_default.ensures c.group_writer_of-of_group.ensures c.written_at-of_template.ensures c.written_at-of_report.ensures in
    record { writer = w; written = writer_found cell c.args.name.now _ w }

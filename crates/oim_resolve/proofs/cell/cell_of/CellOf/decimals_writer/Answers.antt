use Rattle.std.proofs.Common.{ap, ◌∙◌}
use Rattle.std.specs.Option.{option_or}
use Rattle.oim_report.specs.declared.data.Column.{Column}
use Rattle.oim_resolve.specs.ProgramOrigins.{seen_cell}
use Rattle.oim_resolve.specs.Writers.{writes_decimals}
use Rattle.oim_resolve.proofs.WriterLevels.{chosen, decimals_found}
use Rattle.oim_resolve.proofs.cell.cell_of.CellOf.decimals_writer.Goals as goal

pub returns : goal.returns
returns c =
    let cell = seen_cell c.args.self.now in
    let found = c.or-3.ensures ∙ ap (λ o. option_or o c.decimals_at-of_report.result) (c.or-2.ensures ∙ ap (λ o. option_or o c.decimals_at-of_template.result) c.or.ensures) in
    let w = chosen writes_decimals cell _ _ _ _ _ _ _ _ (ap (λ (k : Column). k.level) c.column-column.ensures.column) c.template_level.ensures c.report_level.ensures
    found c.decimals_at-of_column.ensures c.group_decimals_writer-of_group.ensures c.decimals_at-of_template.ensures c.decimals_at-of_report.ensures in
    record { writer = w; written = decimals_found cell _ w }

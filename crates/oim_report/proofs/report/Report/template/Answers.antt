use Rattle.std.proofs.Common.{rules, sym, subst, slice_index_or, ◌∙◌, ap}
use Rattle.oim_report.specs.Places.{HasColumns}
use Rattle.oim_report.proofs.PlaceFacts.{template_is_there, template_has_columns}
use Rattle.oim_report.proofs.report.Report.template.Goals as goal

pub returns-clause-places : goal.returns-clause-places
returns-clause-places c =
    let r = c.index-as_slice-table.result in
    let p = template_is_there c.self.inside.level c.self.inside.templates c.self.inside.tables c.self.inside.parameters c.self.invariant c.args.i in
    let h = template_has_columns c.self.inside.level c.self.inside.templates c.self.inside.tables c.self.inside.parameters c.self.invariant c.table.result.now.template r in
    let i = c.index-as_slice-table.is ∙ ap (λ ts. slice_index_or ts c.table.result.now.template r) c.as_slice.ensures in
    subst HasColumns (sym i) (h (search rules))

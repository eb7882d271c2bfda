use Rattle.std.proofs.Common.{rules, ◌<◌, length, sym, subst, slice_index_or, ◌∙◌, ap}
use Rattle.std.specs.List.{All}
use Rattle.oim_report.specs.declared.data.Column.{Column}
use Rattle.oim_report.proofs.PlaceFacts.{from_is_there}
use Rattle.oim_report.proofs.report.Report.column.Goals as goal

pub returns-clause-places : goal.returns-clause-places
returns-clause-places c =
    let r = c.index-as_slice-c.result in
    let t = c.template.result.now in
    let h = from_is_there t c.template.ensures.places c.args.c r in
    let i = c.index-as_slice-c.is ∙ ap (λ cs. slice_index_or cs c.args.c r) c.as_slice.ensures in
    let all : All (λ k. k < length t.columns) r.from = subst (λ (x : Column). All (λ k. k < length t.columns) x.from) (sym i) (h (search rules)) in
    subst (λ p. All (λ k. k < length p.columns) r.from) c.template.ensures.template all

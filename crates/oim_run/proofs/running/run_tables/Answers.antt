use Rattle.std.proofs.Common.{subst, length}
use Rattle.oim_convert.specs.Answer.{streams}
use Rattle.oim_convert.specs.Runs.{early_fault}
use Rattle.oim_run.specs.Outcomes.{EndsAs}
use Rattle.oim_run.specs.Runs.{range_fault}
use Rattle.oim_run.proofs.Endings.{run_leaves, short_end, short_leaves, tables_end}
use Rattle.oim_run.proofs.running.run_tables.Goals as goal

pub returns-in-Ok-clause-ends : goal.returns-in-Ok-clause-ends
returns-in-Ok-clause-ends g c =
    let told = g.F.Folder.files c.args.folder.now in
    let report = c.args.report.now in
    let workers = c.args.settings.now.workers in
    let ring = c.args.settings.now.ring in
    let layout = c.args.settings.now.layout in
    let old = g.W.Sink.seen c.args.sink.now in
    let new = g.W.Sink.seen c.convert_report.new.sink in
    tables_end g.R.Read.remaining told c.args.base.now workers ring layout old new c.convert_report.result report c.in-Ok.readers.items c.in-Ok.ensures.finds
    (λ files are.
    subst (λ l. EndsAs workers layout (early_fault workers ring (length files) (length report.tables)) report (streams report l.rows files) old new c.convert_report.result) c.profile.ensures
    (c.convert_report.ensures.ends files are))

pub returns-in-Ok-clause-leaves : goal.returns-in-Ok-clause-leaves
returns-in-Ok-clause-leaves g c =
    run_leaves c.args.settings.now.workers c.args.settings.now.ring (length c.in-Ok.readers.items) (length c.args.report.now.tables)
    (g.W.Sink.seen c.args.sink.now)
    (g.W.Sink.seen c.convert_report.new.sink)
    c.convert_report.result c.in-Ok.ensures.count c.convert_report.ensures.leaves

pub returns-in-Err-clause-ends : goal.returns-in-Err-clause-ends
returns-in-Err-clause-ends g c =
    short_end (g.F.Folder.files c.args.folder.now) c.args.base.now c.args.settings.now.workers c.args.settings.now.ring c.args.settings.now.layout
    (g.W.Sink.seen c.args.sink.now) c.in-Err.outcome c.args.report.now c.in-Err.ensures.short

pub returns-in-Err-clause-leaves : goal.returns-in-Err-clause-leaves
returns-in-Err-clause-leaves g c =
    short_leaves c.args.settings.now.workers (range_fault c.args.settings.now.workers c.args.settings.now.ring) (g.W.Sink.seen c.args.sink.now)
    c.in-Err.outcome c.in-Err.ensures.short

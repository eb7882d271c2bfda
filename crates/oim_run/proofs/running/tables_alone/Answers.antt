use Rattle.std.proofs.Common.{None, length, subst}
use Rattle.oim_convert.specs.Answer.{streams}
use Rattle.oim_convert.specs.Runs.{early_fault}
use Rattle.oim_run.specs.Outcomes.{EndsAs}
use Rattle.oim_run.proofs.Endings.{run_leaves, short_end, short_leaves, tables_end}
use Rattle.oim_run.proofs.running.tables_alone.Goals as goal

pub returns-in-Ok-clause-ends : goal.returns-in-Ok-clause-ends
returns-in-Ok-clause-ends g c =
    let told = g.F.Folder.files c.args.folder.now in
    let report = c.args.report.now in
    let layout = c.args.layout in
    let old = g.W.Sink.seen c.args.sink.now in
    let new = g.W.Sink.seen c.convert_alone.new.sink in
    tables_end g.R.Read.remaining told c.args.base.now 1 1 layout old new c.convert_alone.result report c.in-Ok.readers.items c.in-Ok.ensures.finds
    (λ files are.
    subst (λ l. EndsAs 1 layout (early_fault 1 1 (length files) (length report.tables)) report (streams report l.rows files) old new c.convert_alone.result) c.profile.ensures
    (c.convert_alone.ensures.ends files are))

pub returns-in-Ok-clause-leaves : goal.returns-in-Ok-clause-leaves
returns-in-Ok-clause-leaves g c =
    run_leaves 1 1 (length c.in-Ok.readers.items) (length c.args.report.now.tables)
    (g.W.Sink.seen c.args.sink.now)
    (g.W.Sink.seen c.convert_alone.new.sink)
    c.convert_alone.result c.in-Ok.ensures.count c.convert_alone.ensures.leaves

pub returns-in-Err-clause-ends : goal.returns-in-Err-clause-ends
returns-in-Err-clause-ends g c =
    short_end (g.F.Folder.files c.args.folder.now) c.args.base.now 1 1 c.args.layout
    (g.W.Sink.seen c.args.sink.now) c.in-Err.outcome c.args.report.now c.in-Err.ensures.short

pub returns-in-Err-clause-leaves : goal.returns-in-Err-clause-leaves
returns-in-Err-clause-leaves g c =
    short_leaves 1 None (g.W.Sink.seen c.args.sink.now) c.in-Err.outcome c.in-Err.ensures.short

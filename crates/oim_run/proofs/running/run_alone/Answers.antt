use Rattle.std.proofs.Common.{IfSome, None, subst}
use Rattle.oim_convert.specs.Answer.{streams}
use Rattle.oim_files.specs.Metadata.{profile}
use Rattle.oim_run.specs.Outcomes.{EndsAs}
use Rattle.oim_run.specs.Runs.{range_fault, table_files}
use Rattle.oim_run.proofs.Endings.{early_leaves, runs, stops}
use Rattle.oim_run.proofs.running.run_alone.Goals as goal

pub returns-in-Err-clause-ends : goal.returns-in-Err-clause-ends
returns-in-Err-clause-ends g c =
    stops (g.F.Folder.files c.args.folder.now) c.folder_of-base.result.now c.args.meta.now c.args.types.now 1 1 c.args.layout
    (g.W.Sink.seen c.args.sink.now) c.in-Err.fault c.ended_early.result c.folder_of-base.ensures c.in-Err.ensures.gives c.ended_early.ensures

pub returns-in-Err-clause-leaves : goal.returns-in-Err-clause-leaves
returns-in-Err-clause-leaves g c =
    early_leaves 1 None (g.W.Sink.seen c.args.sink.now) c.in-Err.fault c.ended_early.result c.ended_early.ensures

pub returns-in-Ok-clause-ends : goal.returns-in-Ok-clause-ends
returns-in-Ok-clause-ends g c =
    let told = g.F.Folder.files c.args.folder.now in
    let layout = c.args.layout in
    let report = c.in-Ok.report in
    let old = g.W.Sink.seen c.args.sink.now in
    let new = g.W.Sink.seen c.tables_alone.new.sink in
    let base = c.folder_of-base.result.now in
    runs told base c.args.meta.now c.args.types.now 1 1 layout old new c.tables_alone.result report c.folder_of-base.ensures c.in-Ok.ensures.gives
    (subst (λ k. IfSome k (λ files. EndsAs 1 layout (range_fault 1 1) report (streams report profile.rows (table_files files base report)) old new c.tables_alone.result))
    c.in-Ok.ensures.same c.tables_alone.ensures.ends)

pub returns-in-Ok-clause-leaves : goal.returns-in-Ok-clause-leaves
returns-in-Ok-clause-leaves g c = c.tables_alone.ensures.leaves

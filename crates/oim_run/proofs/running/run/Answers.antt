use Rattle.std.proofs.Common.{◌≡◌, subst, IfSome, List, ℕ, Option, None}
use Rattle.oim_json.specs.Sinks.{SinkView}
use Rattle.oim_json.specs.declared.layout.Layout.{Layout}
use Rattle.oim_convert.specs.Answer.{streams}
use Rattle.oim_files.specs.Metadata.{profile}
use Rattle.oim_files.specs.Folders.{Files}
use Rattle.oim_run.specs.Outcomes.{EndsAs, Leaves}
use Rattle.oim_run.specs.Runs.{EndsOver, range_fault, table_files}
use Rattle.oim_run.specs.declared.outcome.Outcome.{Outcome}
use Rattle.oim_run.proofs.Answered.{as_one}
use Rattle.oim_run.proofs.Endings.{alone_over, early_leaves, runs, stops}
use Rattle.oim_run.proofs.running.run.Goals as goal

-- The paths as the settings have them.
named : (told : Option Files) (m m' t t' : List ℕ) (workers ring : ℕ) (layout : Layout) (old new : SinkView) (o : Outcome) → m ≡ m' → t ≡ t'
    → IfSome told (λ files. EndsOver files m t workers ring layout old new o)
    → IfSome told (λ files. EndsOver files m' t' workers ring layout old new o)
named told m m' t t' workers ring layout old new o same_m same_t ends =
    subst (λ x. IfSome told (λ files. EndsOver files x t' workers ring layout old new o)) same_m (subst (λ x. IfSome told (λ files. EndsOver files m x workers ring layout old new o)) same_t ends)

pub returns-then-is_alone-clause-ends : goal.returns-then-is_alone-clause-ends
returns-then-is_alone-clause-ends g c =
    let told = g.F.Folder.files c.args.folder.now in
    let meta = c.as_str-meta.result.now in
    let types = c.as_str-types.result.now in
    let workers = c.args.settings.now.workers in
    let ring = c.args.settings.now.ring in
    let layout = c.args.settings.now.layout in
    let old = g.W.Sink.seen c.args.sink.now in
    let new = g.W.Sink.seen c.run_alone.new.sink in
    named told meta _ types _ workers ring layout old new c.run_alone.result c.as_str-meta.ensures c.as_str-types.ensures
    (alone_over told meta types workers ring layout old new c.run_alone.result
    (c.is_alone.ensures.one c.if-is_alone.true) (c.is_alone.ensures.alone c.if-is_alone.true 0 0) c.run_alone.ensures.ends)

pub returns-then-is_alone-clause-leaves : goal.returns-then-is_alone-clause-leaves
returns-then-is_alone-clause-leaves g c =
    as_one (λ workers early. Leaves workers early (g.W.Sink.seen c.args.sink.now) (g.W.Sink.seen c.run_alone.new.sink) c.run_alone.result) c.args.settings.now.workers
    (range_fault c.args.settings.now.workers c.args.settings.now.ring) None (c.is_alone.ensures.one c.if-is_alone.true) (c.is_alone.ensures.alone c.if-is_alone.true 0 0)
    c.run_alone.ensures.leaves

pub returns-in-Err-clause-ends : goal.returns-in-Err-clause-ends
returns-in-Err-clause-ends g c =
    let told = g.F.Folder.files c.args.folder.now in
    let meta = c.as_str-meta.result.now in
    let types = c.as_str-types.result.now in
    let workers = c.args.settings.now.workers in
    let ring = c.args.settings.now.ring in
    let layout = c.args.settings.now.layout in
    let sink = g.W.Sink.seen c.args.sink.now in
    named told meta _ types _ workers ring layout sink sink c.ended_early.result c.as_str-meta.ensures c.as_str-types.ensures
    (stops told c.folder_of-base.result.now meta types workers ring layout sink c.in-Err.fault c.ended_early.result c.folder_of-base.ensures c.in-Err.ensures.gives c.ended_early.ensures)

pub returns-in-Err-clause-leaves : goal.returns-in-Err-clause-leaves
returns-in-Err-clause-leaves g c =
    early_leaves c.args.settings.now.workers (range_fault c.args.settings.now.workers c.args.settings.now.ring) (g.W.Sink.seen c.args.sink.now)
    c.in-Err.fault c.ended_early.result c.ended_early.ensures

pub returns-in-Ok-clause-ends : goal.returns-in-Ok-clause-ends
returns-in-Ok-clause-ends g c =
    let told = g.F.Folder.files c.args.folder.now in
    let meta = c.as_str-meta.result.now in
    let types = c.as_str-types.result.now in
    let workers = c.args.settings.now.workers in
    let ring = c.args.settings.now.ring in
    let layout = c.args.settings.now.layout in
    let report = c.in-Ok.report in
    let old = g.W.Sink.seen c.args.sink.now in
    let new = g.W.Sink.seen c.run_tables.new.sink in
    let base = c.folder_of-base.result.now in
    named told meta _ types _ workers ring layout old new c.run_tables.result c.as_str-meta.ensures c.as_str-types.ensures
    (runs told base meta types workers ring layout old new c.run_tables.result report c.folder_of-base.ensures c.in-Ok.ensures.gives
    (subst (λ k. IfSome k (λ files. EndsAs workers layout (range_fault workers ring) report (streams report profile.rows (table_files files base report)) old new c.run_tables.result))
    c.in-Ok.ensures.same c.run_tables.ensures.ends))

pub returns-in-Ok-clause-leaves : goal.returns-in-Ok-clause-leaves
returns-in-Ok-clause-leaves g c = c.run_tables.ensures.leaves

use Rattle.std.proofs.Common.{inl}
use Rattle.oim_json.specs.Sinks.{sink_at}
use Rattle.oim_run.proofs.Endings.{behind, behind_told, no_buffer}
use Rattle.oim_run.proofs.Waiting.{keeps_same}
use Rattle.oim_run.specs.state.Buffers.{told_behind}
use Rattle.oim_run.specs.Outcomes.{Leaves}
use Rattle.oim_run.specs.Runs.{range_fault}
use Rattle.oim_run.proofs.buffered.run_to.Goals as goal

pub returns-in_default : goal.returns-in_default
returns-in_default g c = (
  no_buffer (g.F.Folder.files c.args.folder.now) c.args.settings.now.meta c.args.settings.now.types
      c.args.settings.now.workers c.args.settings.now.ring c.args.settings.now.layout c.no_memory.result (g.W.Write.contents c.args.to) c.no_memory.ensures,
  inl (c.no_memory.ensures, keeps_same (g.W.Write.contents c.args.to)),
)

pub returns : goal.returns
returns g c =
    let held = c.run-outcome.new.sink in
    let after = sink_at held.mark (told_behind (g.W.Write.contents held.first.value) (g.W.Write.contents held.writer) held.waiting.items) in (
      behind_told (g.F.Folder.files c.args.folder.now) c.args.settings.now.meta c.args.settings.now.types c.args.settings.now.workers
          c.args.settings.now.ring c.args.settings.now.layout _ after c.run-outcome.result c.after_flush.result c.finish-writer.result.1
          (g.W.Write.contents c.args.to) (g.W.Write.contents held.first.value) (g.W.Write.contents c.finish-writer.result.0)
          c.new-buffer.ensures.fine c.new-buffer.ensures.told c.run-outcome.ensures.ends c.finish-writer.ensures.all c.finish-writer.ensures.some c.after_flush.ensures,
      behind (Leaves c.args.settings.now.workers (range_fault c.args.settings.now.workers c.args.settings.now.ring)) _ after
          c.run-outcome.result c.after_flush.result c.finish-writer.result.1
          (g.W.Write.contents c.args.to) (g.W.Write.contents held.first.value) (g.W.Write.contents c.finish-writer.result.0)
          c.new-buffer.ensures.fine c.new-buffer.ensures.told c.run-outcome.ensures.leaves c.finish-writer.ensures.all c.finish-writer.ensures.some c.after_flush.ensures,
    )

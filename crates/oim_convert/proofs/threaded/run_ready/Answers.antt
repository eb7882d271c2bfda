use Rattle.std.specs.Prelude.{◌≡◌, ℕ, List, length}
use Rattle.std.proofs.Common.{ap, refl, sym, ◌∙◌, subst}
use Rattle.oim_json.specs.JsonText.{head_text}
use Rattle.oim_merge.specs.Merging.{EndEach, Merges, taken_of}
use Rattle.oim_ring.specs.Ends.{DrainView}
use Rattle.oim_ring.specs.declared.item.Item.{Item}
use Rattle.oim_crew.specs.Claims.{Claiming}
use Rattle.oim_convert.specs.Tasks.{Each}
use Rattle.oim_convert.specs.state.Tasks.{IsEnded, IsTable}
use Rattle.oim_convert.specs.state.Preparing.{IsReturnRoom}
use Rattle.oim_convert.specs.declared.table_task.TableTask.{TableTask}
use Rattle.oim_convert.proofs.ResultsAndDrains.{lanes_ended, lanes_fresh, opened_serve}
use Rattle.oim_convert.proofs.RunHistories.{as_many, rings_len}
use Rattle.oim_convert.proofs.threaded.run_ready.Goals as goal

pub work_crew-claims-requires-clause-items : goal.work_crew-claims-requires-clause-items
work_crew-claims-requires-clause-items g c κs within = opened_serve c.args.report.now c.args.limits.rows c.args.ready.crew.claims.items c.requires.ready.tasks c.requires.count c.requires.rows

pub work_crew-claims-requires-clause-fresh : goal.work_crew-claims-requires-clause-fresh
work_crew-claims-requires-clause-fresh g c κs within = (
  lanes_fresh c.args.ready.crew.claims.items 0 c.args.ready.unmerged.drains.items
      c.requires.ready.drains,
  c.requires.ready.faults.0,
  c.requires.ready.faults.1,
)

pub finish-requires-clause-drains : goal.finish-requires-clause-drains
finish-requires-clause-drains g c =
    let ended = c.work_crew-claims.result.1.merged.drains.items in
    subst (λ (z : Claiming (TableTask g.row.R.Denot)). Each (IsEnded z.items) 0 ended) (sym c.work_crew-claims.ensures.claims)
    (lanes_ended c.args.ready.crew.claims.items 0 c.args.ready.unmerged.drains.items ended c.work_crew-claims.ensures.merged.rings c.work_crew-claims.ensures.merged.ended c.requires.ready.drains)

pub finish-requires-clause-count : goal.finish-requires-clause-count
finish-requires-clause-count g c =
    rings_len c.work_crew-claims.result.1.merged.drains.items c.args.ready.unmerged.drains.items c.work_crew-claims.ensures.merged.rings
    ∙ (c.requires.ready.count ∙ ap (λ (z : Claiming (TableTask g.row.R.Denot)). length z.items) (sym c.work_crew-claims.ensures.claims))

pub finish-requires-clause-room : goal.finish-requires-clause-room
finish-requires-clause-room g c = subst (λ (z : Claiming (TableTask g.row.R.Denot)). IsReturnRoom (length z.items) z.workers c.args.ready.room) (sym c.work_crew-claims.ensures.claims) c.requires.ready.room

pub returns-in-Some-clause-tables : goal.returns-in-Some-clause-tables
returns-in-Some-clause-tables g c =
    let served = c.work_crew-claims.result.1.shifts.served in (
      served,
      c.work_crew-claims.ensures.alone,
      subst (λ (z : Claiming (TableTask g.row.R.Denot)).
          Each (IsTable g.R.Read.remaining c.args.report.now c.args.limits.rows served z.items) 0 c.in-Some.drains.items)
          c.work_crew-claims.ensures.claims c.in-Some.ensures.tables,
    )

pub returns-in-Some-clause-writes : goal.returns-in-Some-clause-writes
returns-in-Some-clause-writes g c =
    let ended = c.work_crew-claims.result.1.merged.drains.items in
    let taken : c.in-Some.drains.items ≡ taken_of ended = c.in-Some.ensures.taken in
    let merged = c.work_crew-claims.result.1.merged in
    let old = g.W.Sink.seen c.args.sink.now in
    let new = g.W.Sink.seen c.work_crew-claims.new.sink in
    let Wrote : List ℕ → List (List Item) → Type 0 = λ head hs. Merges c.args.ready.unmerged.layout old new head hs merged.faults.items merged.end in
    let written : Wrote (head_text c.args.report.now) (taken_of ended) = subst (λ h. Wrote h (taken_of ended)) c.requires.head c.work_crew-claims.ensures.merged.written in record {
      count = as_many (λ (d : DrainView). d.taken) ended c.in-Some.drains.items (sym taken)
          ∙ (rings_len ended c.args.ready.unmerged.drains.items c.work_crew-claims.ensures.merged.rings ∙ (c.requires.ready.count ∙ c.requires.count));
      ended = subst (λ hs. EndEach hs) (sym taken) c.work_crew-claims.ensures.merged.ended;
      merged = subst (λ hs. Wrote (head_text c.args.report.now) hs) (sym taken) written;
    }

pub returns-in-None-clause-writes : goal.returns-in-None-clause-writes
returns-in-None-clause-writes g c =
    let ended = c.work_crew-claims.result.1.merged.drains.items in
    let merged = c.work_crew-claims.result.1.merged in
    let old = g.W.Sink.seen c.args.sink.now in
    let new = g.W.Sink.seen c.work_crew-claims.new.sink in
    let Wrote : List ℕ → Type 0 = λ head. Merges c.args.ready.unmerged.layout old new head (taken_of ended) merged.faults.items merged.end in (
      merged.faults.items,
      merged.end,
      record {
        histories = taken_of ended;
        are = (
          as_many (λ (d : DrainView). d.taken) ended (taken_of ended) refl
              ∙ (rings_len ended c.args.ready.unmerged.drains.items c.work_crew-claims.ensures.merged.rings ∙ (c.requires.ready.count ∙ c.requires.count)),
          c.work_crew-claims.ensures.merged.ended,
        );
        merged = subst Wrote c.requires.head c.work_crew-claims.ensures.merged.written;
      },
    )

use Rattle.std.specs.Prelude.{◌≡◌, ◌∷◌, [], Ok, Err, length}
use Rattle.std.proofs.Common.{◌∙◌, ap, refl, subst, sym, arith, rules}
use Rattle.std.specs.Vec.Iter.{into_iter_items}
use Rattle.oim_merge.specs.Histories.{refusals}
use Rattle.oim_merge.specs.Writers.{WriterView}
use Rattle.oim_ring.specs.declared.item.Item.TheVariants as items
use Rattle.oim_convert.specs.state.Steps.{GaveTable}
use Rattle.oim_convert.proofs.TableFiles.{nothing_left}
use Rattle.oim_convert.proofs.SerialTables.{HasRead, broken_tables, continues_more, ended_tables, next_broke, next_read, none_read, read_begin, read_end, refusals_more, took_refusals}
use Rattle.oim_convert.proofs.serial.convert_tables.Goals as goal

pub returns-in-Some : goal.returns-in-Some
returns-in-Some g c =
    let told = g.R.Read.remaining in let report = c.args.report.now in let limit = c.args.limits.rows in let readers = c.args.readers.items in let old = c.args.writer in
    broken_tables told report limit readers old old (g.W.Sink.seen c.args.sink.now) c.requires.head refl c.args.faults.now.items (c.requires.empty ∙ sym (ap refusals c.requires.begun))
    c.in-Some.fault c.requires.sink (none_read told report limit old.items readers c.requires.begun) (search rules)

pub loop-reader-init : goal.loop-reader-init
loop-reader-init g c =
    let told = g.R.Read.remaining in let report = c.args.report.now in let limit = c.args.limits.rows in
    let all : into_iter_items c.into_iter-reader-iterator.result ≡ c.args.readers.items = c.into_iter-reader-iterator.ensures.into_iter_gives.0 in record {
      left = (let len = ap length all in omega (arith, len, c.requires.count));
      sink = c.requires.sink;
      continues = refl;
      faults = c.requires.empty ∙ sym (ap refusals c.requires.begun);
      count = (let none = ap length c.requires.empty in let len = c.args.faults.now.ok.0 in omega (arith, none, len));
      room = (let room = c.requires.room in let count = c.requires.count in omega (arith, room, count));
      read = subst (λ rs. HasRead told report limit 0 c.args.writer.items c.args.readers.items rs) (sym all)
          (read_begin told report limit c.args.writer.items c.args.readers.items c.requires.begun);
    }

pub loop-reader-preserved : goal.loop-reader-preserved
loop-reader-preserved g c =
    let told = g.R.Read.remaining in let report = c.args.report.now in let limit = c.args.limits.rows in let table = c.loop-reader.table in
    let inv = c.loop-reader.invariant in let old = c.args.writer in let v = c.loop-reader.writer in
    let u = c.convert_table.new.writer in let w = c.end_table.new.self in let took = c.in-Ok.ensures.took in
    let last = items.Ending c.numbered.result ∷ [] in
    let left = into_iter_items c.next.new.self in record {
      left = (let count = ap length c.in-Some-reader.ensures.steps.0 in omega (arith, count, inv.left));
      sink = ap (λ (x : WriterView). x.sink) c.end_table.ensures.items ∙ c.in-Ok.ensures.sink;
      continues = continues_more old u w last u.sink c.end_table.ensures.items (continues_more old v u took.blocks u.sink took.is inv.continues);
      faults = c.end_table.ensures.faults ∙ refusals_more old u w last u.sink c.end_table.ensures.items c.loop-reader.faults.items (refusals last)
          (took_refusals v u (λ facts. GaveTable told report table limit c.in-Some-reader.reader facts (Ok c.in-Ok.ending)) c.loop-reader.faults.items took inv.faults) refl;
      count = (let more = c.end_table.ensures.count in omega (arith, more, inv.count));
      room = (let same = c.end_table.ensures.room in omega (arith, same, inv.room));
      read = next_read told report limit table v u c.in-Some-reader.reader c.args.readers.items left
          (subst (λ xs. HasRead told report limit table v.items c.args.readers.items xs) c.in-Some-reader.ensures.steps.0 inv.read)
          w c.in-Ok.ending c.numbered.result u.sink c.end_table.ensures.items took c.numbered.ensures.own c.numbered.ensures.same;
    }

pub returns-in-Err : goal.returns-in-Err
returns-in-Err g c =
    let told = g.R.Read.remaining in let report = c.args.report.now in let limit = c.args.limits.rows in let readers = c.args.readers.items in
    let table = c.loop-reader.table in let reader = c.in-Some-reader.reader in let v = c.loop-reader.writer in let u = c.convert_table.new.writer in
    let took = c.in-Err.ensures.took in let inv = c.loop-reader.invariant in
    broken_tables told report limit readers c.args.writer u (g.W.Sink.seen c.convert_table.new.sink) c.requires.head
    (continues_more c.args.writer v u took.blocks u.sink took.is inv.continues) c.loop-reader.faults.items
    (took_refusals v u (λ facts. GaveTable told report table limit reader facts (Err c.in-Err.fault)) c.loop-reader.faults.items took inv.faults)
    c.in-Err.fault c.in-Err.ensures.sink
    (next_broke told report limit table v u reader readers (into_iter_items c.next.new.self)
    (subst (λ xs. HasRead told report limit table v.items readers xs) c.in-Some-reader.ensures.steps.0 inv.read) c.in-Err.fault took)
    c.in-Err.ensures.broken

pub returns : goal.returns
returns g c =
    let told = g.R.Read.remaining in let report = c.args.report.now in let limit = c.args.limits.rows in let readers = c.args.readers.items in
    let table = c.loop-reader.table in let w = c.loop-reader.writer in let inv = c.loop-reader.invariant in
    let over : into_iter_items c.loop-reader.reader-iterator ≡ [] =
    nothing_left (into_iter_items c.loop-reader.reader-iterator) (sym c.loop-reader.reader-iterator.rest.ok.0 ∙ c.in-None.ensures.steps.0) in
    ended_tables told report limit readers c.args.writer w (g.W.Sink.seen c.finish.new.sink) c.requires.head inv.continues c.loop-reader.faults.items inv.faults
    (read_end told report limit table w.items readers (subst (λ xs. HasRead told report limit table w.items readers xs) over inv.read))
    c.finish.result c.finish.ensures

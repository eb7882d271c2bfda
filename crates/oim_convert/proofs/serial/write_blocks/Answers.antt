use Rattle.std.specs.Prelude.{◌++◌, IfSome, Ok, Err}
use Rattle.std.proofs.Common.{ap, refl, ◌∙◌}
use Rattle.std.proofs.lemmas.Option.{IfSome_then}
use Rattle.oim_merge.specs.Writers.{WriterView}
use Rattle.oim_ring.specs.declared.item.Ending.TheVariants.{Closed, Refused}
use Rattle.oim_convert.specs.state.Steps.{Gave}
use Rattle.oim_convert.proofs.SentFacts.{IsReading, block_given, cut_short, end_given, fault_given, reading_begins, so_far}
use Rattle.oim_convert.proofs.SerialTables.{took_as, took_more, took_nothing}
use Rattle.oim_convert.proofs.serial.write_blocks.Goals as goal

pub loop-init : goal.loop-init
loop-init g c =
    let b = c.args.blocks.now in record {
      table = c.requires.table;
      sink = c.requires.sink;
      took = took_nothing c.args.writer.now (λ facts. IfSome b.left (λ whole. IsReading c.args.table whole facts b.pending b.left))
          (reading_begins c.args.table b.left _ b.pending refl c.requires.begun);
    }

pub loop-preserved : goal.loop-preserved
loop-preserved g c =
    let table = c.args.table in let first = c.args.blocks.now.left in let block = c.in-Ok-Some.block in
    let old = c.loop.blocks in let new = c.next_block.new.self in
    let gives = rw (c.in-Ok-Some.field-0-is, c.loop.invariant.table) at c.in-Ok-Some.ensures.next in record {
      table = c.next_block.ensures.same.0 ∙ c.loop.invariant.table;
      sink = ap (λ (w : WriterView). w.sink) c.put.ensures;
      took = took_more c.args.writer.now c.loop.writer (λ facts. IfSome first (λ whole. IsReading table whole facts old.pending old.left))
          (λ facts. IfSome first (λ whole. IsReading table whole facts new.pending new.left)) c.loop.invariant.took c.put.new.self block
          (g.W.Sink.seen c.put.new.sink) c.put.ensures
          (λ facts reading. IfSome_then first reading (λ whole r. block_given table whole facts old.pending new.pending new.left old.left block (facts ++ block) r gives refl));
    }

pub returns-in-Some-clause-took : goal.returns-in-Some-clause-took
returns-in-Some-clause-took g c =
    let table = c.args.table in let first = c.args.blocks.now.left in let block = c.in-Ok-Some.block in
    let old = c.loop.blocks in let new = c.next_block.new.self in
    let gives = rw (c.in-Ok-Some.field-0-is, c.loop.invariant.table) at c.in-Ok-Some.ensures.next in
    took_more c.args.writer.now c.loop.writer (λ facts. IfSome first (λ whole. IsReading table whole facts old.pending old.left))
    (λ facts. IfSome first (λ s. Gave table s facts (Err c.in-Some.fault))) c.loop.invariant.took c.put.new.self block
    (g.W.Sink.seen c.put.new.sink) c.put.ensures
    (λ facts reading. IfSome_then first reading (λ whole r. so_far table whole (facts ++ block) new.pending new.left
    (block_given table whole facts old.pending new.pending new.left old.left block (facts ++ block) r gives refl)))

pub returns-in-Ok-None-clause-took : goal.returns-in-Ok-None-clause-took
returns-in-Ok-None-clause-took g c =
    let table = c.args.table in let first = c.args.blocks.now.left in
    let old = c.loop.blocks in let new = c.next_block.new.self in
    let gives = rw (c.in-Ok-None.field-0-is, c.loop.invariant.table) at c.in-Ok-None.ensures.next in
    took_as c.args.writer.now c.loop.writer (λ facts. IfSome first (λ whole. IsReading table whole facts old.pending old.left))
    (λ facts. IfSome first (λ s. Gave table s facts (Ok Closed))) c.loop.invariant.took
    (λ facts reading. IfSome_then first reading (λ whole r. end_given table whole facts old.pending new.pending old.left new.left r gives))

pub returns-in-Err-clause-took : goal.returns-in-Err-clause-took
returns-in-Err-clause-took g c =
    let table = c.args.table in let first = c.args.blocks.now.left in
    let old = c.loop.blocks in let new = c.next_block.new.self in
    let gives = rw (c.loop.invariant.table) at c.in-Err.ensures.next in
    took_as c.args.writer.now c.loop.writer (λ facts. IfSome first (λ whole. IsReading table whole facts old.pending old.left))
    (λ facts. IfSome first (λ s. Gave table s facts (Ok (Refused c.in-Err.fault)))) c.loop.invariant.took
    (λ facts reading. IfSome_then first reading (λ whole r. fault_given table whole facts old.pending new.pending old.left new.left r c.in-Err.fault gives))

pub returns-clause-took : goal.returns-clause-took
returns-clause-took g c =
    let table = c.args.table in let first = c.args.blocks.now.left in let old = c.loop.blocks in
    took_as c.args.writer.now c.loop.writer (λ facts. IfSome first (λ whole. IsReading table whole facts old.pending old.left))
    (λ facts. IfSome first (λ s. Gave table s facts (Ok c.refused.result))) c.loop.invariant.took
    (λ facts reading. IfSome_then first reading (λ whole r. cut_short table whole facts old.pending old.left c.refused.result r c.refused.ensures))

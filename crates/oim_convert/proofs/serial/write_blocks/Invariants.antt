use Rattle.std.proofs.Common.{◌≡◌, IfSome}
use Rattle.oim_convert.specs.state.Steps.{TookBlocks}
use Rattle.oim_convert.proofs.SentFacts.{IsReading}
use Rattle.oim_convert.proofs.serial.write_blocks.Given as goal

abbrev pub invariant-loop : goal.invariant-loop
invariant-loop g l = record {
  table : l.blocks.table ≡ l.table;
  sink : l.writer.sink ≡ g.W.Sink.seen l.sink;
  took : TookBlocks l.fn.writer l.writer (λ facts. IfSome l.fn.blocks.left (λ whole. IsReading l.table whole facts l.blocks.pending l.blocks.left));
}

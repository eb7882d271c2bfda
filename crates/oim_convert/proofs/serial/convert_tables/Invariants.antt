use Rattle.std.proofs.Common.{◌≡◌, ◌≤◌, ◌+◌, length}
use Rattle.std.specs.Prelude.{vec_len, vec_capacity}
use Rattle.std.specs.Vec.Iter.{into_iter_items}
use Rattle.oim_merge.specs.Histories.{refusals}
use Rattle.oim_merge.specs.state.Writers.{Continues}
use Rattle.oim_convert.proofs.SerialTables.{HasRead}
use Rattle.oim_convert.proofs.serial.convert_tables.Given as goal

abbrev pub invariant-loop-reader : goal.invariant-loop-reader
invariant-loop-reader g l = record {
  left : l.table + length (into_iter_items l.reader-iterator) ≡ length l.report.tables;
  sink : l.writer.sink ≡ g.W.Sink.seen l.sink;
  continues : Continues l.fn.writer l.writer;
  faults : l.faults.items ≡ refusals l.writer.items;
  count : vec_len l.faults ≤ l.table;
  room : length l.report.tables ≤ vec_capacity l.faults;
  read : HasRead g.R.Read.remaining l.report l.limits.rows l.table l.writer.items l.fn.readers.items (into_iter_items l.reader-iterator);
}

use Rattle.std.proofs.Common.{true, false, inl, inr, option_map}
use Rattle.csv.specs.Reading.{reader_state, source_of}
use Rattle.csv.specs.Records.{fields_of}
use Rattle.oim_records.specs.Grids.{records_left}
use Rattle.oim_records.proofs.GridFacts.{takes_end, takes_found, takes_none, takes_record}
use Rattle.oim_records.proofs.records.Records.read.Goals as goal

pub returns-in-Ok-true : goal.returns-in-Ok-true
returns-in-Ok-true g c =
    let before = option_map (records_left (reader_state c.self.inside.reader)) (source_of g.R.Read.remaining c.self.inside.reader) in
    let left = option_map (records_left (reader_state c.read_byte_record.new.self)) (source_of g.R.Read.remaining c.read_byte_record.new.self) in
    rw (← c.self.view_is, c.if-self.false) (takes_found before left (fields_of c.read_byte_record.new.row) (elim c.self.invariant [
      | inl failed ↦ takes_none g.R.Read.remaining c.self.inside.reader c.read_byte_record.new.self true (fields_of c.read_byte_record.new.row) failed
      | inr plain ↦ takes_record g.R.Read.remaining c.self.inside.reader c.read_byte_record.new.self true (fields_of c.read_byte_record.new.row) plain.config
          (rw c.in-Ok-true.field-0-test at (c.in-Ok-true.ensures.reads plain.trim plain.ready))
    ]))

pub returns-in-Ok-false : goal.returns-in-Ok-false
returns-in-Ok-false g c =
    let before = option_map (records_left (reader_state c.self.inside.reader)) (source_of g.R.Read.remaining c.self.inside.reader) in
    let left = option_map (records_left (reader_state c.read_byte_record.new.self)) (source_of g.R.Read.remaining c.read_byte_record.new.self) in
    rw (← c.self.view_is, c.if-self.false) (takes_end before left (fields_of c.read_byte_record.new.row) (elim c.self.invariant [
      | inl failed ↦ takes_none g.R.Read.remaining c.self.inside.reader c.read_byte_record.new.self false (fields_of c.read_byte_record.new.row) failed
      | inr plain ↦ takes_record g.R.Read.remaining c.self.inside.reader c.read_byte_record.new.self false (fields_of c.read_byte_record.new.row) plain.config
          (rw c.in-Ok-false.field-0-test at (c.in-Ok-false.ensures.reads plain.trim plain.ready))
    ]))

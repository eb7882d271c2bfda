use Rattle.csv.specs.Records.{fields_of}
use Rattle.oim_places.proofs.Rereads.{header_taken}
use Rattle.oim_places.proofs.records.header_of.Goals as goal

pub returns-in-Ok-true : goal.returns-in-Ok-true
returns-in-Ok-true g c =
    (header_taken (g.R.Read.remaining c.args.reader) c.new-records.result c.next_record.new.records (fields_of c.next_record.new.row) c.new-records.ensures (c.in-Ok-true.ensures c.in-Ok-true.field-0-test), c.new.ensures.fields)

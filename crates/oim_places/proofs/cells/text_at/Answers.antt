use Rattle.csv.specs.Records.{fields_of}
use Rattle.oim_entries.proofs.FieldFacts.{text-bad, text-there}
use Rattle.oim_places.proofs.cells.text_at.Goals as goal

pub returns-in-Ok : goal.returns-in-Ok
returns-in-Ok c = text-there (fields_of c.args.row.now) c.args.place c.in-Some.field.now c.in-Ok.text.now c.in-Some.ensures.value c.in-Ok.ensures.cases.0 c.in-Ok.ensures.cases.1

pub returns-in-Err : goal.returns-in-Err
returns-in-Err c = text-bad (fields_of c.args.row.now) c.args.place c.in-Some.field.now c.in-Some.ensures.value c.in-Err.ensures.cases.0

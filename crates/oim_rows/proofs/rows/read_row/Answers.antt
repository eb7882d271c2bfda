use Rattle.csv.specs.Records.{fields_of}
use Rattle.oim_rows.proofs.StreamLaws.{gives_answer, when_ok}
use Rattle.oim_rows.proofs.rows.read_row.Goals as goal

pub returns-clause-next : goal.returns-clause-next
returns-clause-next g c =
    let took = when_ok c.read-found.result _ _ c.read-found.ensures in
    gives_answer c.args.number c.args.decoder.now c.args.ids.now c.take_row.new.ids c.args.records.now c.read-found.new.self (fields_of c.read-found.new.row) c.read-found.result c.take_row.result
    took c.take_row.ensures.early c.take_row.ensures.row c.take_row.ensures.ids

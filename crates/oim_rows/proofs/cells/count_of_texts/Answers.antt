use Rattle.oim_records.proofs.FieldPlaces.{none-from-all}
use Rattle.oim_rows.proofs.cells.count_of_texts.Goals as goal

pub returns-clause-texts : goal.returns-clause-texts
returns-clause-texts c = none-from-all 0 c.args.row.now c.len.ensures.texts

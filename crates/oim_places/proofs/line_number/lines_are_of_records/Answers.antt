use Rattle.oim_places.proofs.LineLaws.{lines_of_records}
use Rattle.oim_places.proofs.line_number.lines_are_of_records.Goals as goal

pub returns : goal.returns
returns c = lines_of_records

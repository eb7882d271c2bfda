use Rattle.oim_places.proofs.FaultLists.{records_by_row}
use Rattle.oim_places.proofs.bad_rows.fault_records_are_by_row.Goals as goal

pub returns : goal.returns
returns c = records_by_row

use Rattle.oim_rows.proofs.WholeLaw as law
use Rattle.oim_rows.proofs.laws.stream_is_of_all_rows.Goals as goal

pub returns : goal.returns
returns c = law.stream_is_of_all_rows

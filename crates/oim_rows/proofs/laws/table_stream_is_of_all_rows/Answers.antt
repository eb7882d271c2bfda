use Rattle.oim_rows.proofs.WholeLaw as law
use Rattle.oim_rows.proofs.laws.table_stream_is_of_all_rows.Goals as goal

pub returns : goal.returns
returns c = law.table_stream_is_of_all_rows

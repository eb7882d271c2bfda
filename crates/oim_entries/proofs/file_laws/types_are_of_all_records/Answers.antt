use Rattle.std.proofs.Common.{[]}
use Rattle.oim_entries.proofs.KindLaws.{said-all}
use Rattle.oim_entries.proofs.file_laws.types_are_of_all_records.Goals as goal

pub returns : goal.returns
returns c = λ table rs types e uri local. said-all table 0 [] types rs uri local e

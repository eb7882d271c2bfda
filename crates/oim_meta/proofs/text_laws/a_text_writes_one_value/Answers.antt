use Rattle.oim_meta.proofs.TextLaws.{value_law, fault_law}
use Rattle.oim_meta.proofs.text_laws.a_text_writes_one_value.Goals as goal

pub returns-clause-value : goal.returns-clause-value
returns-clause-value c = value_law

pub returns-clause-fault : goal.returns-clause-fault
returns-clause-fault c = fault_law

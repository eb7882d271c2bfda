use Rattle.oim_table_faults.proofs.FirstFaults as law
use Rattle.oim_table_faults.proofs.laws.good_rows_add_nothing.Goals as goal

pub returns-clause-row : goal.returns-clause-row
returns-clause-row c = λ g n ids r. (law.none_is_good g n ids r, λ facts. law.good_has_none g n ids r facts.0 facts.1)

pub returns-clause-table : goal.returns-clause-table
returns-clause-table c = law.good_adds_nothing

use Rattle.oim_json.proofs.Lines.{facts_line}
use Rattle.oim_json.proofs.laws.fact_lists_are_one_line.Goals as goal

pub returns : goal.returns
returns c = facts_line

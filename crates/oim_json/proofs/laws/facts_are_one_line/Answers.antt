use Rattle.oim_json.proofs.Lines.{member_line}
use Rattle.oim_json.proofs.laws.facts_are_one_line.Goals as goal

pub returns : goal.returns
returns c = member_line

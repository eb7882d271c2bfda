use Rattle.oim_json.proofs.Lines.{lines_cut}
use Rattle.oim_json.proofs.laws.lines_are_members.Goals as goal

pub returns : goal.returns
returns c = lines_cut

use Rattle.oim_fast.specs.state.FrameParts.{IsPart}
use Rattle.oim_fast.proofs.MakerLaws.{all_of_none}
use Rattle.oim_fast.proofs.frame.parts.FrameParts.make_room.Goals as goal

pub returns : goal.returns
returns c = λ f keys all. all_of_none (IsPart f keys) c.clear.new.self.items c.clear.ensures.items

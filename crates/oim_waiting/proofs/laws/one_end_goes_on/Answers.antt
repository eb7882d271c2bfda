use Rattle.oim_waiting.proofs.RoomLaws.{room_law}
use Rattle.oim_waiting.proofs.laws.one_end_goes_on.Goals as goal

pub returns : goal.returns
returns c = room_law

use Rattle.oim_records.proofs.Moves.{lanes-chosen}
use Rattle.oim_records.proofs.field.merged.Goals as goal

pub returns : goal.returns
returns c = lanes-chosen c.args.count c.args.front c.args.rest c.fits-front.0 c.fits-rest.0

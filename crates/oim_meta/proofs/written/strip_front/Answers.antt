use Rattle.oim_meta.proofs.Strips.{front_is}
use Rattle.oim_meta.proofs.written.strip_front.Goals as goal

pub returns : goal.returns
returns c = front_is _ _ _ c.strip_prefix.ensures.cases

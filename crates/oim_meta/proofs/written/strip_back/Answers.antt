use Rattle.oim_meta.proofs.Strips.{back_is}
use Rattle.oim_meta.proofs.written.strip_back.Goals as goal

pub returns : goal.returns
returns c = back_is _ _ _ c.strip_suffix.ensures.cases

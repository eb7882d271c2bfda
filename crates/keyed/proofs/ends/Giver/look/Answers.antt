use Rattle.keyed.proofs.Keys.{taken}
use Rattle.keyed.proofs.ends.Giver.look.Goals as goal

pub try_recv_as-requires-clause-rule : goal.try_recv_as-requires-clause-rule
try_recv_as-requires-clause-rule g c = (taken g.F.Fit.fits _ _, λ items views h at. tt)

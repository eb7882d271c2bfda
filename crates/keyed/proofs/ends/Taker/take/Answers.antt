use Rattle.keyed.proofs.Keys.{taken}
use Rattle.keyed.proofs.ends.Taker.take.Goals as goal

pub recv_as-requires-clause-rule : goal.recv_as-requires-clause-rule
recv_as-requires-clause-rule g c = (taken g.F.Fit.fits _ _, λ items views h at. tt)

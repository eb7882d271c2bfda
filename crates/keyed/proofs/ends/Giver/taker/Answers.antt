use Rattle.keyed.proofs.Keys.{forked}
use Rattle.keyed.proofs.ends.Giver.taker.Goals as goal

pub another-pass-requires-clause-rule : goal.another-pass-requires-clause-rule
another-pass-requires-clause-rule g c = forked g.F.Fit.fits _ _ c.self.invariant.2

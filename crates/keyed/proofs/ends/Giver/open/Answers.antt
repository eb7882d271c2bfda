use Rattle.std.proofs.Common.{rules}
use Rattle.keyed.proofs.Keys.{begins, first_sent, forked}
use Rattle.keyed.proofs.ends.Giver.open.Goals as goal

pub bounded_with-requires-clause-rule : goal.bounded_with-requires-clause-rule
bounded_with-requires-clause-rule g c = begins g.F.Fit.fits

pub try_send_as-requires-clause-rule : goal.try_send_as-requires-clause-rule
try_send_as-requires-clause-rule g c =
    (first_sent g.F.Fit.fits _ _ _ c.args.item g.F.Fit.key (search rules) c.requires.known c.requires.fits, λ items views h at. tt)

pub another-other-requires-clause-rule : goal.another-other-requires-clause-rule
another-other-requires-clause-rule g c = forked g.F.Fit.fits _ _ (search rules)

use Rattle.keyed.proofs.Keys.{more_sent}
use Rattle.keyed.proofs.ends.Giver.give.Goals as goal

pub try_send_as-requires-clause-rule : goal.try_send_as-requires-clause-rule
try_send_as-requires-clause-rule g c =
    (more_sent g.F.Fit.fits _ _ _ c.args.item c.self.invariant.2 (rw c.self.view_is c.requires), λ items views h at. tt)

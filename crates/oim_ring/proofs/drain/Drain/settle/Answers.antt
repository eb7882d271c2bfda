use Rattle.std.proofs.Common.{◌≡◌, ◌∙◌, ap, false}
use Rattle.oim_ring.specs.Items.{blocks_only}
use Rattle.rtrb.specs.Ring.{received}
use Rattle.oim_ring.proofs.TakenWhole.{all_taken}
use Rattle.oim_ring.proofs.drain.Drain.settle.Goals as goal

pub returns-clause-sent : goal.returns-clause-sent
returns-clause-sent c =
    let after = c.slots_after.new.self in
    let taken : received after ≡ c.args.self.taken = c.slots_after.ensures.looked.1 ∙ ap (λ v. v.taken) c.self.view_is in
    let ended : blocks_only (received after) ≡ false = ap blocks_only taken ∙ c.requires.ended in
    all_taken (received after) _ _ c.closed.invariant ended c.slots_after.ensures.fifo ∙ ap (λ v. v.sent) c.closed.view_is

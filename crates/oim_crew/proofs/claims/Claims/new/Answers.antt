use Rattle.std.proofs.Common.{arith, ap}
use Rattle.oim_crew.proofs.ViewShares.{begins_with}
use Rattle.oim_crew.proofs.claims.Claims.new.Goals as goal

pub new-requires : goal.new-requires
new-requires g c =
    let len = c.args.items.ok.0 in let room = c.requires.room in
    begins_with c.args.items.items c.args.workers _ _ (ap (λ v. v.items) c.of.ensures) c.in_ok-filled.ensures (omega arith)

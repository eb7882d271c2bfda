use Rattle.std.proofs.Common.{rules, arith, ap}
use Rattle.oim_crew.proofs.ViewShares.{cuts}
use Rattle.oim_crew.proofs.seats.deal.Goals as goal

pub split_seat-one-requires : goal.split_seat-one-requires
split_seat-one-requires g c =
    let share = ap (λ v. v.share) c.loop-made.invariant.view in
    let none = ap (λ v. v.finished) c.loop-made.invariant.view in
    (search rules, search rules, cuts _ _ _ _ (omega arith) none)

use Rattle.std.proofs.Common.{arith}
use Rattle.oim_period.specs.Table.{days}
use Rattle.oim_period.proofs.Ends.{of_days, pair_is}
use Rattle.oim_period.proofs.moments.duration.Goals as goal

pub returns-in_err-days : goal.returns-in_err-days
returns-in_err-days c =
    let h = c.in_err-days.ensures in
    rw c.from_residual.ensures (λ x d. let i = of_days d c.if-text-eq39.false in let b = h i.0 i.1 i.2 in absurd (omega arith))

pub returns : goal.returns
returns c =
    let s = c.args.text.now in
    let h = c.in_ok-days.ensures in
    let w = c.in_ok-days.days.within in (
      rw (c.midnight.ensures, c.midnight-2.ensures) (days s c.in_ok-days.days.first c.in_ok-days.days.after h.0 w),
      λ x d. let i = of_days d c.if-text-eq39.false in let p = h.1 i.0 i.1 i.2 in pair_is x _ _ (omega arith) (omega arith),
    )

use Rattle.std.proofs.Common.{◌≡◌, ◌+◌, arith, refl}
use Rattle.oim_period.specs.Calendar.{IsDate, day_number}
use Rattle.oim_period.proofs.Bridge.{since_min_at, date_exists, day_number-bound}
use Rattle.oim_period.proofs.calendar.day_number.Goals as goal

exists : (c : goal.After-days_since_min) → IsDate c.args.year c.args.month c.args.day
exists c = (date_exists c.args.year c.args.month c.args.day c.requires.year_in.0 c.requires.year_in.1 c.requires.month_in c.requires.day_in).0 (c.in-Ok.ensures.succeeds.0 refl)

counted : (c : goal.After-days_since_min) → c.days_since_min.result ≡ 3_652_425 + day_number c.args.year c.args.month c.args.day
counted c =
    since_min_at c.args.year c.args.month c.args.day _ _ _ _ (exists c) c.requires.month_in c.requires.day_in
    c.in-Ok.ensures.value.0 c.in-Ok.ensures.value.1 c.in-Ok.ensures.value.2 (rw c.to_plain.ensures at c.days_since_min.ensures.value)

pub overflow_sub-result : goal.overflow_sub-result
overflow_sub-result c = omega (arith, counted c)

pub returns-clause-exists : goal.returns-clause-exists
returns-clause-exists c = (λ _. exists c, λ _. refl)

pub returns-clause-value : goal.returns-clause-value
returns-clause-value c = omega (arith, counted c)

pub returns-clause-bound : goal.returns-clause-bound
returns-clause-bound c =
    omega (arith, counted c, day_number-bound c.args.year c.args.month c.args.day (exists c))

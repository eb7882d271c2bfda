use Rattle.std.proofs.Common.{◌≡◌, ◌+◌, arith, refl}
use Rattle.oim_period.specs.Calendar.{IsWeek, week_start}
use Rattle.oim_period.proofs.Weeks.{week_exists, week_number, new_year_bound}
use Rattle.oim_period.proofs.calendar.week_start.Goals as goal

exists : (c : goal.After-days_since_min) → IsWeek c.args.year c.args.week
exists c = (week_exists c.args.year c.args.week c.requires.year_in.0 c.requires.year_in.1 c.requires.week_in).0 (c.in-Ok.ensures.succeeds.0 refl)

counted : (c : goal.After-days_since_min) → c.days_since_min.result ≡ 3_652_425 + week_start c.args.year c.args.week
counted c =
    let e = exists c in
    let v = c.in-Ok.ensures.value in
    let q = rw (c.to_plain.ensures, c.from_iso_week_date-date.ensures) at c.days_since_min.ensures.value in
    week_number c.args.year c.args.week _ _ _ c.requires.year_in.0 c.requires.year_in.1 c.requires.week_in e.1 v.0 v.1 (rw v.2 at q)

pub overflow_sub-result : goal.overflow_sub-result
overflow_sub-result c = omega (arith, counted c)

pub returns-clause-exists : goal.returns-clause-exists
returns-clause-exists c = (λ _. exists c, λ _. refl)

pub returns-clause-value : goal.returns-clause-value
returns-clause-value c = omega (arith, counted c)

pub returns-in_default-clause-exists : goal.returns-in_default-clause-exists
returns-in_default-clause-exists c =
    (λ e. absurd (cc), λ h. c.in_default.ensures.succeeds.1 ((week_exists c.args.year c.args.week c.requires.year_in.0 c.requires.year_in.1 c.requires.week_in).1 h))

pub returns-clause-bound : goal.returns-clause-bound
returns-clause-bound c =
    omega (arith, counted c, exists c, new_year_bound c.args.year c.requires.year_in.0 c.requires.year_in.1)

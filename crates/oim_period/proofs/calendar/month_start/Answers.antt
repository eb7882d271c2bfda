use Rattle.std.proofs.Common.{◌≡◌, ◌+◌, arith}
use Rattle.oim_period.specs.Calendar.{IsDate}
use Rattle.oim_period.proofs.Weeks.{next_january, last_year_end}
use Rattle.oim_period.proofs.Bridge.{day_number-bound}
use Rattle.oim_period.proofs.calendar.month_start.Goals as goal

pub returns-then-year-lt9999-clause-exists : goal.returns-then-year-lt9999-clause-exists
returns-then-year-lt9999-clause-exists c =
    let thirteen : c.args.month ≡ 13 = omega arith in
    let january : IsDate (c.args.year + 1) 1 1 = ((omega arith, omega arith), (omega arith, omega arith), (omega arith, omega arith)) in
    rw (thirteen, next_january c.args.year c.requires.year_in.0) (λ _. day_number-bound (c.args.year + 1) 1 1 january, λ _. c.day_number-then-year-lt9999.ensures.exists.1 january)

pub returns-then-year-lt9999-clause-value : goal.returns-then-year-lt9999-clause-value
returns-then-year-lt9999-clause-value c =
    let thirteen : c.args.month ≡ 13 = omega arith in
    rw (thirteen, next_january c.args.year c.requires.year_in.0) c.day_number-then-year-lt9999.ensures.value

pub returns-else-year-lt9999-clause-exists : goal.returns-else-year-lt9999-clause-exists
returns-else-year-lt9999-clause-exists c =
    let thirteen : c.args.month ≡ 13 = omega arith in
    let last : c.args.year ≡ 9999 = omega arith in
    rw (thirteen, last, last_year_end) (λ e. absurd (cc), λ h. absurd (omega arith))

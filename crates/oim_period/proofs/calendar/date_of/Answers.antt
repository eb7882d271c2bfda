use Rattle.oim_period.proofs.Bridge.{date_of_is}
use Rattle.oim_period.proofs.calendar.date_of.Goals as goal

pub returns : goal.returns
returns c =
    let d = c.from_plain.result in
    date_of_is _ _ _ c.args.day (d.year_in, d.month_in, d.day_in) (rw c.from_plain.ensures c.from_days_since_min.ensures)

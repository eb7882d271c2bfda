use Rattle.std.proofs.Common.{◌≡◌, refl}
use Rattle.oim_period.specs.Table.{week}
use Rattle.oim_period.proofs.Rows.{of_week}
use Rattle.oim_period.proofs.OnlyOne.{read_when}
use Rattle.oim_period.proofs.short_form.week_of_two_digits.Goals as goal

pub returns : goal.returns
returns c =
    let n = c.in_ok-number.number in
    let told = c.in_ok-number.ensures.exact in
    let d = (told n).0 refl in
    read_when _ c.week.result _ _ _ (λ w. rw (d.1, d.2) (week c.args.year n d.0 w))
    (λ f a p.
    let i = of_week p c.args.tens c.args.units refl in
    let e = (told i.0).1 (i.1, i.3, i.4) in
    let same : i.0 ≡ n = cc in
    (rw same at i.2, rw same at i.5, rw same at i.6))
    c.week.ensures.exists c.week.ensures.value

use Rattle.std.proofs.Common.{◌≡◌, arith, refl}
use Rattle.oim_period.specs.Table.{day}
use Rattle.oim_period.proofs.Rows.{of_day}
use Rattle.oim_period.proofs.OnlyOne.{read_when}
use Rattle.oim_period.proofs.Order.{month_length-most}
use Rattle.oim_period.proofs.short_form.month_and_day.Goals as goal

pub returns : goal.returns
returns c =
    let m = c.in_ok-month.month in
    let n = c.in_ok-number.number in
    let told = c.in_ok-month.ensures.exact in
    let told₂ = c.in_ok-number.ensures.exact in
    let d = (told m).0 refl in
    let d₂ = (told₂ n).0 refl in
    read_when _ c.day.result _ _ _ (λ w. rw (d.1, d.2, d₂.1, d₂.2) (day c.args.year m n w))
    (λ f a p.
    let i = of_day p c.args.month_tens c.args.month_units c.args.day_tens c.args.day_units refl in
    let bound = month_length-most c.args.year i.0 in
    let e = (told i.0).1 (omega arith, i.3, i.4) in
    let e₂ = (told₂ i.1).1 (omega arith, i.5, i.6) in
    let same : i.0 ≡ m = cc in
    let same₂ : i.1 ≡ n = cc in
    (rw (same, same₂) at i.2, rw (same, same₂) at i.7, rw (same, same₂) at i.8))
    c.day.ensures.exists c.day.ensures.value

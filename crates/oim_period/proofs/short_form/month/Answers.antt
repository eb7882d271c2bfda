use Rattle.std.proofs.Common.{◌≡◌, arith, refl}
use Rattle.oim_period.specs.Table.{month}
use Rattle.oim_period.proofs.Rows.{of_month}
use Rattle.oim_period.proofs.OnlyOne.{read_by}
use Rattle.oim_period.proofs.short_form.month.Goals as goal

pub returns : goal.returns
returns c =
    let n = c.in_ok-month.month in
    let told = c.in_ok-month.ensures.exact in
    let d = (told n).0 refl in
    read_by _ c.months.result _ _ (rw (d.1, d.2) (month c.args.year n (omega arith, omega arith)))
    (λ f a p.
    let i = of_month p c.args.tens c.args.units refl in
    let e = (told i.0).1 (omega arith, i.2, i.3) in
    let same : i.0 ≡ n = cc in
    (rw same at i.4, rw same at i.5))
    c.months.ensures.exists c.months.ensures.value

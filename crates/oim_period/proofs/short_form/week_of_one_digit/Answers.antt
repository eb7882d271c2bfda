use Rattle.std.proofs.Common.{◌≡◌, arith, refl}
use Rattle.oim_period.specs.Table.{week_of_one_digit}
use Rattle.oim_period.proofs.Rows.{of_week_digit}
use Rattle.oim_period.proofs.OnlyOne.{read_when}
use Rattle.oim_period.proofs.short_form.week_of_one_digit.Goals as goal

pub returns : goal.returns
returns c =
    let n = c.in_ok-number.number in
    let told = c.in_ok-number.ensures.exact in
    let d = (told n).0 refl in
    read_when _ c.week.result _ _ _ (λ w. rw d.1 (week_of_one_digit c.args.year n (omega arith) w))
    (λ f a p.
    let i = of_week_digit p c.args.byte refl in
    let e = (told i.0).1 (((i.2).1, i.1), i.3) in
    let same : i.0 ≡ n = cc in
    (rw same at i.2, rw same at i.4, rw same at i.5))
    c.week.ensures.exists c.week.ensures.value

pub returns-in_err-number : goal.returns-in_err-number
returns-in_err-number c =
    rw c.from_residual.ensures (λ f a p. let i = of_week_digit p c.args.byte refl in let e = (c.in_err-number.ensures.exact i.0).1 (((i.2).1, i.1), i.3) in absurd (cc))

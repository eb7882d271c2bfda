use Rattle.std.proofs.Common.{◌≡◌, refl}
use Rattle.oim_period.specs.Table.{half}
use Rattle.oim_period.proofs.Rows.{of_half}
use Rattle.oim_period.proofs.OnlyOne.{read_by}
use Rattle.oim_period.proofs.short_form.half.Goals as goal

pub returns : goal.returns
returns c =
    let n = c.in_ok-half.half in
    let told = c.in_ok-half.ensures.exact in
    let d = (told n).0 refl in
    read_by _ c.months.result _ _ (rw d.1 (half c.args.year n d.0))
    (λ f a p.
    let i = of_half p c.args.byte refl in
    let e = (told i.0).1 (i.1, i.2) in
    let same : i.0 ≡ n = cc in
    (rw same at i.3, rw same at i.4))
    c.months.ensures.exists c.months.ensures.value

pub returns-in_err-half : goal.returns-in_err-half
returns-in_err-half c =
    rw c.from_residual.ensures (λ f a p. let i = of_half p c.args.byte refl in let e = (c.in_err-half.ensures.exact i.0).1 (i.1, i.2) in absurd (cc))

use Rattle.std.proofs.Common.{◌≡◌, ◌++◌, drop, arith, refl}
use Rattle.oim_period.specs.Table.{IsDays, in_year, InYear}
use Rattle.oim_period.specs.Digits.{four}
use Rattle.oim_period.proofs.WholeDays.{of_short, four_first}
use Rattle.oim_period.proofs.Split.{rest_is}
use Rattle.oim_period.proofs.OnlyOne.{read_through}
use Rattle.oim_period.proofs.parts.days.Goals as goal

pub returns-in_ok-year-in-len4-up : goal.returns-in_ok-year-in-len4-up
returns-in_ok-year-in-len4-up c =
    let s = c.args.text.now in
    let y = c.in_ok-year-in-len4-up.year in
    let told = c.in_ok-year-in-len4-up.ensures.exact in
    let d = (told y).0 refl in
    let r = rw (rest_is s 4) at c.in_year.ensures in
    let written : s ≡ four y ++ drop 4 s = four_first s y (omega arith) d.1 in
    read_through (InYear y (drop 4 s)) (IsDays s) c.in_year.result
    (λ f a p. rw written (in_year y (drop 4 s) f a d.0 p))
    (λ f a w. let i = of_short w c.if-text-eq22.false in let e = (told i.0).1 (i.1, i.2) in let same : i.0 ≡ y = cc in rw same at i.3)
    r

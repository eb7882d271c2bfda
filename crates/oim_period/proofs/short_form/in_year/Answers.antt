use Rattle.std.proofs.Common.{◌≡◌, [], ◌∷◌, arith, refl, get_or}
use Rattle.std.proofs.lemmas.Slice.Eq.{text_from_reads}
use Rattle.oim_period.specs.Table.{year}
use Rattle.oim_period.proofs.Rows.{of_year}
use Rattle.oim_period.proofs.OnlyOne.{read_by}
use Rattle.oim_period.proofs.short_form.in_year.Goals as goal

pub returns-in-empty : goal.returns-in-empty
returns-in-empty c =
    let e : c.args.tail.now ≡ [] = text_from_reads c.args.tail.now [] (omega arith) tt in
    rw e (read_by _ c.months.result _ _ (year c.args.year) (λ f a p. of_year p refl) c.months.ensures.exists c.months.ensures.value)

pub returns-in-45-2 : goal.returns-in-45-2
returns-in-45-2 c =
    let s = c.args.tail.now in
    let e : s ≡ 45 ∷ get_or s 1 0 ∷ get_or s 2 0 ∷ 45 ∷ get_or s 4 0 ∷ get_or s 5 0 ∷ [] =
    text_from_reads s (45 ∷ get_or s 1 0 ∷ get_or s 2 0 ∷ 45 ∷ get_or s 4 0 ∷ get_or s 5 0 ∷ []) (omega arith)
    (omega arith, (refl, (refl, (omega arith, (refl, (refl, tt)))))) in
    rw e c.month_and_day.ensures

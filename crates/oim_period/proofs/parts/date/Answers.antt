use Rattle.std.proofs.Common.{◌≡◌, ℕ, List, [], ◌∷◌, arith, refl, get_or}
use Rattle.std.proofs.lemmas.Slice.Eq.{text_from_reads}
use Rattle.oim_period.specs.Digits.{date_text}
use Rattle.oim_period.specs.Table.{IsDay, date}
use Rattle.oim_period.specs.Calendar.{IsDate, day_number}
use Rattle.oim_period.proofs.Written.{of_date}
use Rattle.oim_period.proofs.Order.{month_length-most}
use Rattle.oim_period.proofs.OnlyOne.{only_by}
use Rattle.oim_period.proofs.parts.date.Goals as goal

pub returns-in_err-day-in-45-clause-exact : goal.returns-in_err-day-in-45-clause-exact
returns-in_err-day-in-45-clause-exact c =
    let s = c.args.text.now in
    let p : List ℕ = get_or s 0 0 ∷ get_or s 1 0 ∷ get_or s 2 0 ∷ get_or s 3 0 ∷ 45 ∷ get_or s 5 0 ∷ get_or s 6 0 ∷ 45 ∷ get_or s 8 0 ∷ get_or s 9 0 ∷ [] in
    let e : s ≡ p = text_from_reads s p (omega arith) (refl, (refl, (refl, (refl, (omega arith, (refl, (refl, (omega arith, (refl, (refl, tt)))))))))) in
    rw c.from_residual-in_err-day-in-45.ensures (λ k w.
    let i = of_date w _ _ _ _ _ _ _ _ e in
    let most = month_length-most i.0 i.1 in
    let n = (c.in_err-day-in-45.ensures.exact i.2).1 (omega arith, i.7, i.8) in
    absurd (cc))

pub returns-in_ok-day-in-45-clause-exact : goal.returns-in_ok-day-in-45-clause-exact
returns-in_ok-day-in-45-clause-exact c =
    let s = c.args.text.now in
    let y = c.in_ok-year-in-45.year in
    let m = c.in_ok-month-in-45.month in
    let n = c.in_ok-day-in-45.day in
    let told = c.in_ok-year-in-45.ensures.exact in
    let told₂ = c.in_ok-month-in-45.ensures.exact in
    let told₃ = c.in_ok-day-in-45.ensures.exact in
    let d = (told y).0 refl in
    let d₂ = (told₂ m).0 refl in
    let d₃ = (told₃ n).0 refl in
    let p : List ℕ = get_or s 0 0 ∷ get_or s 1 0 ∷ get_or s 2 0 ∷ get_or s 3 0 ∷ 45 ∷ get_or s 5 0 ∷ get_or s 6 0 ∷ 45 ∷ get_or s 8 0 ∷ get_or s 9 0 ∷ [] in
    let e : s ≡ p = text_from_reads s p (omega arith) (refl, (refl, (refl, (refl, (omega arith, (refl, (refl, (omega arith, (refl, (refl, tt)))))))))) in
    let written : s ≡ date_text y m n = text_from_reads s (date_text y m n) (omega arith) (d.1.0, (d.1.1, (d.1.2, (d.1.3, (omega arith, (d₂.1, (d₂.2, (omega arith, (d₃.1, (d₃.2, tt)))))))))) in
    only_by (IsDay s) c.day_number.result (day_number y m n) (IsDate y m n) (λ w. rw written (date y m n w))
    (λ k w. let i = of_date w _ _ _ _ _ _ _ _ e in
    let most = month_length-most i.0 i.1 in
    let a = (told i.0).1 (omega arith, i.4) in
    let b = (told₂ i.1).1 (omega arith, i.5, i.6) in
    let f = (told₃ i.2).1 (omega arith, i.7, i.8) in
    let same : i.0 ≡ y = cc in let same₂ : i.1 ≡ m = cc in let same₃ : i.2 ≡ n = cc in
    (rw (same, same₂, same₃) at i.3, rw (same, same₂, same₃) at i.9))
    c.day_number.ensures.exists c.day_number.ensures.value

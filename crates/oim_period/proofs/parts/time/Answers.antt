use Rattle.std.proofs.Common.{◌≡◌, ℕ, ◌+◌, ◌*◌, List, [], ◌∷◌, arith, refl, get_or}
use Rattle.std.proofs.lemmas.Slice.Eq.{text_from_reads}
use Rattle.oim_period.specs.Digits.{clock_text}
use Rattle.oim_period.specs.Table.{IsTime, clock}
use Rattle.oim_period.specs.Calendar.{IsClock}
use Rattle.oim_period.proofs.Written.{of_time}
use Rattle.oim_period.proofs.OnlyOne.{only_by}
use Rattle.oim_period.proofs.parts.time.Goals as goal

pub returns-in_ok-second-in-58-clause-exact : goal.returns-in_ok-second-in-58-clause-exact
returns-in_ok-second-in-58-clause-exact c =
    let s = c.args.text.now in
    let h = c.in_ok-hour-in-58.hour in
    let m = c.in_ok-minute-in-58.minute in
    let n = c.in_ok-second-in-58.second in
    let told = c.in_ok-hour-in-58.ensures.exact in
    let told₂ = c.in_ok-minute-in-58.ensures.exact in
    let told₃ = c.in_ok-second-in-58.ensures.exact in
    let d = (told h).0 refl in
    let d₂ = (told₂ m).0 refl in
    let d₃ = (told₃ n).0 refl in
    let p : List ℕ = get_or s 0 0 ∷ get_or s 1 0 ∷ 58 ∷ get_or s 3 0 ∷ get_or s 4 0 ∷ 58 ∷ get_or s 6 0 ∷ get_or s 7 0 ∷ [] in
    let e : s ≡ p = text_from_reads s p (omega arith) (refl, (refl, (omega arith, (refl, (refl, (omega arith, (refl, (refl, tt)))))))) in
    let written : s ≡ clock_text h m n = text_from_reads s (clock_text h m n) (omega arith) (d.1, (d.2, (omega arith, (d₂.1, (d₂.2, (omega arith, (d₃.1, (d₃.2, tt)))))))) in
    only_by (IsTime s) c.second_of_day.result (3600 * h + 60 * m + n) (IsClock h m n) (λ w. rw written (clock h m n w))
    (λ k w. let i = of_time w _ _ _ _ _ _ e in
    let a = (told i.0).1 (grind arith, i.4, i.5) in
    let b = (told₂ i.1).1 (grind arith, i.6, i.7) in
    let f = (told₃ i.2).1 (grind arith, i.8, i.9) in
    let same : i.0 ≡ h = cc in let same₂ : i.1 ≡ m = cc in let same₃ : i.2 ≡ n = cc in
    (rw (same, same₂, same₃) at i.3, rw (same, same₂, same₃) at i.10))
    c.second_of_day.ensures.exists c.second_of_day.ensures.value

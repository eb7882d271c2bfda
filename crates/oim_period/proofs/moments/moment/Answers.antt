use Rattle.std.proofs.Common.{◌≡◌, take, drop, arith}
use Rattle.oim_period.specs.Calendar.{seconds_at}
use Rattle.oim_period.specs.Table.{date_time}
use Rattle.oim_period.proofs.Ends.{of_moment}
use Rattle.oim_period.proofs.Split.{joined, rest_is}
use Rattle.oim_period.proofs.moments.moment.Goals as goal
use Rattle.oim_period.proofs.moments.moment.Goals.{then-text-ne19-via-then-text-ne19, then-text-ne19-via-else-text-ne19+then-text-ne84}

pub returns-then-text-ne19 : goal.returns-then-text-ne19
returns-then-text-ne19 c =
    λ k m. let i = of_moment m in
    elim c.then-text-ne19.branch [ then-text-ne19-via-then-text-ne19 w ↦ absurd (omega arith) | then-text-ne19-via-else-text-ne19+then-text-ne84 w ↦ absurd (omega arith) ]

pub returns-in_err-day : goal.returns-in_err-day
returns-in_err-day c =
    rw c.from_residual.ensures (λ k m. let i = of_moment m in absurd (c.in_err-day.ensures.exact i.0 i.2))

pub returns-in_err-second : goal.returns-in_err-second
returns-in_err-second c =
    let h = rw (rest_is c.args.text.now 11) at c.in_err-second.ensures.exact in
    rw c.from_residual-in_err-second.ensures (λ k m. let i = of_moment m in absurd (h i.1 i.3))

pub returns-then-second-lt86400 : goal.returns-then-second-lt86400
returns-then-second-lt86400 c =
    let s = c.args.text.now in
    let d = c.in_ok-day.ensures.exact in
    let t = rw (rest_is s 11) at c.in_ok-second.ensures.exact in
    let j = joined s 10 84 (omega arith) (omega arith) in
    let b = c.in_ok-day.ensures.bound in (
      rw j (date_time (take 10 s) (drop 11 s) c.in_ok-day.day c.in_ok-second.second d.0 t.0 (omega arith)),
      λ k m. let i = of_moment m in let p = d.1 i.0 i.2 in let q = t.1 i.1 i.3 in omega arith,
    )

pub returns-then-day-lt-DAY_LIMIT : goal.returns-then-day-lt-DAY_LIMIT
returns-then-day-lt-DAY_LIMIT c =
    let s = c.args.text.now in
    let d = c.in_ok-day.ensures.exact in
    let t = rw (rest_is s 11) at c.in_ok-second.ensures.exact in
    let j = joined s 10 84 (omega arith) (omega arith) in
    let b = c.in_ok-second.ensures.bound in
    let e : seconds_at c.midnight.result.day c.midnight.result.second ≡ seconds_at c.in_ok-day.day c.in_ok-second.second = omega arith in (
      rw (e, j) (date_time (take 10 s) (drop 11 s) c.in_ok-day.day c.in_ok-second.second d.0 t.0 (omega arith)),
      λ k m. let i = of_moment m in let p = d.1 i.0 i.2 in let q = t.1 i.1 i.3 in omega arith,
    )

pub returns-else-day-lt-DAY_LIMIT : goal.returns-else-day-lt-DAY_LIMIT
returns-else-day-lt-DAY_LIMIT c =
    let s = c.args.text.now in
    let d = c.in_ok-day.ensures.exact in
    let t = rw (rest_is s 11) at c.in_ok-second.ensures.exact in
    let b = c.in_ok-second.ensures.bound in
    λ k m. let i = of_moment m in let p = d.1 i.0 i.2 in let q = t.1 i.1 i.3 in absurd (omega arith)

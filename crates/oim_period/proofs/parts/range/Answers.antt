use Rattle.std.proofs.Common.{take, drop, arith}
use Rattle.oim_period.specs.Table.{range}
use Rattle.oim_period.proofs.WholeDays.{of_range}
use Rattle.oim_period.proofs.Split.{joined_two, rest_is}
use Rattle.oim_period.proofs.parts.range.Goals as goal
use Rattle.oim_period.proofs.parts.range.Goals.{else-first-last-via-then-first-last+else-last-lt-DAY_LIMIT, else-first-last-via-else-first-last}

pub returns-in_err-first : goal.returns-in_err-first
returns-in_err-first c =
    let h = c.in_err-first.ensures.exact in
    rw c.from_residual.ensures (λ f a w. let i = of_range w c.requires in absurd (h f i.1))

pub returns-in_err-last : goal.returns-in_err-last
returns-in_err-last c =
    let h = rw (rest_is c.args.text.now 12) at c.in_err-last.ensures.exact in
    rw c.from_residual-in_err-last.ensures (λ f a w. let i = of_range w c.requires in absurd (h i.0 i.2))

pub returns-then-last-lt-DAY_LIMIT : goal.returns-then-last-lt-DAY_LIMIT
returns-then-last-lt-DAY_LIMIT c =
    let s = c.args.text.now in
    let h = c.in_ok-first.ensures.exact in
    let k = rw (rest_is s 12) at c.in_ok-last.ensures.exact in
    let j = joined_two s 10 46 46 (omega arith) (omega arith) (omega arith) in (
      rw j (range (take 10 s) (drop 12 s) c.in_ok-first.first c.in_ok-last.last h.0 k.0 c.if-first-last.true),
      λ f a w. let i = of_range w c.requires in let p = h.1 f i.1 in let q = k.1 i.0 i.2 in (p, omega arith),
    )

pub returns-else-first-last : goal.returns-else-first-last
returns-else-first-last c =
    let h = c.in_ok-first.ensures.exact in
    let k = rw (rest_is c.args.text.now 12) at c.in_ok-last.ensures.exact in
    λ f a w. let i = of_range w c.requires in
    let p = h.1 f i.1 in let q = k.1 i.0 i.2 in
    elim c.else-first-last.branch [ else-first-last-via-then-first-last+else-last-lt-DAY_LIMIT w ↦ omega arith | else-first-last-via-else-first-last w ↦ omega arith ]

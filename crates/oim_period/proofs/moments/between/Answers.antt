use Rattle.std.proofs.Common.{take, drop, arith}
use Rattle.oim_period.specs.Table.{moments}
use Rattle.oim_period.specs.Reads.{seconds_of}
use Rattle.oim_period.proofs.Ends.{of_pair, pair_is}
use Rattle.oim_period.proofs.Split.{joined, rest_is}
use Rattle.oim_period.proofs.moments.between.Goals as goal

pub returns-then-text-ne47 : goal.returns-then-text-ne47
returns-then-text-ne47 c = λ x d. let i = of_pair d c.requires in absurd (omega arith)

pub returns-in_err-start : goal.returns-in_err-start
returns-in_err-start c =
    let h = c.in_err-start.ensures in
    rw c.from_residual.ensures (λ x d. let i = of_pair d c.requires in h x.0 i.0)

pub returns-in_err-end : goal.returns-in_err-end
returns-in_err-end c =
    let h = rw (rest_is c.args.text.now 20) at c.in_err-end.ensures in
    rw c.from_residual-in_err-end.ensures (λ x d. let i = of_pair d c.requires in h x.1 i.1)

pub returns-then-seconds : goal.returns-then-seconds
returns-then-seconds c =
    let s = c.args.text.now in
    let h = c.in_ok-start.ensures in
    let k = rw (rest_is s 20) at c.in_ok-end.ensures in
    let j = joined s 19 47 (omega arith) (omega arith) in (
      rw j (moments (take 19 s) (drop 20 s) (seconds_of c.in_ok-start.start) (seconds_of c.in_ok-end.end) h.0 k.0 (omega arith)),
      λ x d. let i = of_pair d c.requires in pair_is x _ _ (h.1 x.0 i.0) (k.1 x.1 i.1),
    )

pub returns-else-seconds : goal.returns-else-seconds
returns-else-seconds c =
    let h = c.in_ok-start.ensures in
    let k = rw (rest_is c.args.text.now 20) at c.in_ok-end.ensures in
    λ x d. let i = of_pair d c.requires in let p = h.1 x.0 i.0 in let q = k.1 x.1 i.1 in absurd (omega arith)

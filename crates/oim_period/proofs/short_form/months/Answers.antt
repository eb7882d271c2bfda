use Rattle.std.proofs.Common.{arith, refl}
use Rattle.oim_period.proofs.Order.{month_order}
use Rattle.oim_period.proofs.short_form.months.Goals as goal

pub returns-in_err-first-clause-exists : goal.returns-in_err-first-clause-exists
returns-in_err-first-clause-exists c =
    let later = month_order c.args.year c.args.from c.args.to c.requires.from_in c.requires.ordered in
    rw c.from_residual.ensures (λ e. absurd (cc), λ h. c.in_err-first.ensures.exists.1 (omega (arith, later, h)))

pub invariant_of-result : goal.invariant_of-result
invariant_of-result c =
    let later = month_order c.args.year c.args.from c.args.to c.requires.from_in c.requires.ordered in
    let ends = c.in_ok-after.ensures.exists.0 refl in
    record { ordered = rw (c.in_ok-first.ensures.value, c.in_ok-after.ensures.value) later; within = rw c.in_ok-after.ensures.value ends }

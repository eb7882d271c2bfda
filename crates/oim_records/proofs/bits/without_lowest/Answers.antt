use Rattle.std.proofs.Common.{◌-◌, arith}
use native.Mathlib.Decide.{dec_lt}
use Rattle.std.proofs.lemmas.Nat.Bits.{bit_at-lt, bit_at_and}
use Rattle.oim_records.proofs.LowestBits.{one-less}
use Rattle.oim_records.proofs.bits.without_lowest.Goals as goal

pub returns-clause-cleared : goal.returns-clause-cleared
returns-clause-cleared c bit low =
    let m = c.args.m in
    omega (arith, bit_at_and m (m - 1) bit, (one-less bit m low.0 low.1).0)

pub returns-clause-kept : goal.returns-clause-kept
returns-clause-kept c bit low k apart =
    let m = c.args.m in
    elim (dec_lt k bit) [
      | yes lt ↦ omega (arith, bit_at_and m (m - 1) k, low.1 k lt)
      | no le ↦ omega (arith, bit_at_and m (m - 1) k, (one-less bit m low.0 low.1).1 k (omega (arith, apart)))
    ]

pub returns-clause-no_more : goal.returns-clause-no_more
returns-clause-no_more c k one =
    let m = c.args.m in
    omega (arith, one, bit_at_and m (m - 1) k, bit_at-lt m k)

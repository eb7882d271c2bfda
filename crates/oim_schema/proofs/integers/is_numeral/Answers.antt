use Rattle.std.proofs.Common.{◌<◌, arith, length}
use Rattle.oim_cells.proofs.Digits.{digits_all}
use Rattle.oim_schema.proofs.integers.is_numeral.Goals as goal

pub returns-then-not-is_empty : goal.returns-then-not-is_empty
returns-then-not-is_empty c =
    let s = c.args.text.now in
    let n : 0 < length s = grind arith in
    (λ t. (n, (digits_all s).1 (c.are_digits.ensures.0 t)), λ k. c.are_digits.ensures.1 ((digits_all s).0 k.1))

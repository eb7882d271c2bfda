use Rattle.std.proofs.Common.{◌<◌, arith, length}
use Rattle.oim_cells.proofs.Marks.{integer_is}
use Rattle.oim_cells.proofs.numeral.is_integer.Goals as goal

pub returns-then-not-is_empty : goal.returns-then-not-is_empty
returns-then-not-is_empty c =
    let e = c.without_sign-digits.ensures in
    let i = integer_is c.args.text.now c.without_sign-digits.result.now e in
    let n : 0 < length c.without_sign-digits.result.now = grind arith in
    (λ t. i.1 (n, c.are_digits.ensures.0 t), λ k. c.are_digits.ensures.1 (i.0 k).1)

use Rattle.std.proofs.Common.{◌<◌, None, Some, arith, length}
use Rattle.std.proofs.lemmas.Str.Pattern.{split_parts}
use Rattle.oim_cells.proofs.Marks.{decimal_whole, decimal_pointed, lacks_by_index}
use Rattle.oim_cells.proofs.numeral.is_decimal.Goals as goal

pub returns-in-Some : goal.returns-in-Some
returns-in-Some c =
    let d = c.without_sign-digits.result.now in
    let p = split_parts 46 d (Some (c.in-Some.before, c.in-Some.after)) c.in-Some.ensures.cases (omega arith) in
    let i = decimal_pointed c.args.text.now d _ _ c.without_sign-digits.ensures p.0 (lacks_by_index 46 _ p.1) in
    (λ t. i.1 (c.is_pointed.ensures.0 t), λ k. c.is_pointed.ensures.1 (i.0 k))

pub returns-then-not-is_empty : goal.returns-then-not-is_empty
returns-then-not-is_empty c =
    let d = c.without_sign-digits.result.now in
    let p = split_parts 46 d None c.in-None.ensures.cases (omega arith) in
    let i = decimal_whole c.args.text.now d c.without_sign-digits.ensures (lacks_by_index 46 d p) in
    let n : 0 < length d = grind arith in
    (λ t. i.1 (n, c.are_digits.ensures.0 t), λ k. c.are_digits.ensures.1 (i.0 k).1)

pub returns-else-not-is_empty : goal.returns-else-not-is_empty
returns-else-not-is_empty c =
    let d = c.without_sign-digits.result.now in
    let p = split_parts 46 d None c.in-None.ensures.cases (omega arith) in
    let i = decimal_whole c.args.text.now d c.without_sign-digits.ensures (lacks_by_index 46 d p) in
    (λ t. absurd (grind arith), λ k. let l = (i.0 k).0 in absurd (grind arith))

use Rattle.std.proofs.Common.{None, Some, arith}
use Rattle.std.proofs.lemmas.Str.Pattern.{split_parts}
use Rattle.oim_cells.proofs.Marks.{lacks_by_index}
use Rattle.oim_cells.proofs.Doubles.{double_e, double_E, double_plain}
use Rattle.oim_cells.proofs.numeral.is_double.Goals as goal

pub returns-in-Some : goal.returns-in-Some
returns-in-Some c =
    let s = c.args.text.now in
    let p = split_parts 101 s (Some (c.in-Some.front, c.in-Some.back)) c.in-Some.ensures.cases (omega arith) in
    let i = double_e s _ _ p.0 (lacks_by_index 101 _ p.1) in
    (λ t. i.1 (c.has_power.ensures.0 t), λ k. c.has_power.ensures.1 (i.0 k))

pub returns-in-Some-split_once : goal.returns-in-Some-split_once
returns-in-Some-split_once c =
    let s = c.args.text.now in
    let n = split_parts 101 s None c.in_default.ensures.cases (omega arith) in
    let p = split_parts 69 s (Some (c.in-Some-split_once.front, c.in-Some-split_once.back)) c.in-Some-split_once.ensures.cases (omega arith) in
    let i = double_E s _ _ (lacks_by_index 101 s n) p.0 (lacks_by_index 69 _ p.1) in
    (λ t. i.1 (c.has_power-in-Some-split_once.ensures.0 t), λ k. c.has_power-in-Some-split_once.ensures.1 (i.0 k))

pub returns-in-None : goal.returns-in-None
returns-in-None c =
    let s = c.args.text.now in
    let n = split_parts 101 s None c.in_default.ensures.cases (omega arith) in
    let k = split_parts 69 s None c.in-None.ensures.cases (omega arith) in
    let i = double_plain s (lacks_by_index 101 s n) (lacks_by_index 69 s k) in
    (λ t. i.1 (c.is_decimal.ensures.0 t), λ d. c.is_decimal.ensures.1 (i.0 d))

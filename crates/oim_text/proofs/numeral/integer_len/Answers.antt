use Rattle.std.proofs.Common.{List, ℕ, subst, arith, take}
use Rattle.std.specs.Str.Parse.{AllDigits}
use Rattle.std.proofs.lemmas.List.{take_rest}
use Rattle.oim_cells.specs.declared.cells.NumberKind.TheVariants.{Integer}
use Rattle.oim_text.proofs.Numerals.{digits_there}
use Rattle.oim_text.proofs.numeral.integer_len.Goals as goal

pub returns-else-digits-eq0-clause-integer : goal.returns-else-digits-eq0-clause-integer
returns-else-digits-eq0-clause-integer c =
    let start = c.sign_len-start.result in
    let digits = c.digits_len-digits.result in
    let text = c.args.text.now in
    let there = subst (λ (l : List ℕ). AllDigits 10 (take digits l)) (take_rest text start) c.digits_len-digits.ensures.digits in
    λ _. digits_there Integer text start digits c.sign_len-start.ensures.sign (omega arith) (omega arith) there

use Rattle.std.proofs.Common.{List, ℕ, ◌+◌, ◌∙◌, arith, subst, sym, take}
use Rattle.std.proofs.lemmas.List.{take_rest}
use Rattle.std.specs.Str.Parse.{AllDigits}
use Rattle.oim_cells.specs.Numeral.{IsInteger}
use Rattle.oim_text.proofs.Numerals.{digits_front, front_is_numeral, with_power}
use Rattle.oim_text.proofs.numeral.numeral_len.Goals as goal

pub returns-then-digits-len-clause-numeral : goal.returns-then-digits-len-clause-numeral
returns-then-digits-len-clause-numeral c =
    let text = c.args.text.now in
    let there : AllDigits 10 (take c.args.len text) = subst (λ (n : ℕ). AllDigits 10 (take n text)) c.if-digits-len.true c.digits_len-digits.ensures.digits in
    λ some. front_is_numeral c.args.kind (take c.args.len text) (digits_front c.args.kind text c.args.len (omega arith) some there)

pub returns-then-front-eq0-clause-numeral : goal.returns-then-front-eq0-clause-numeral
returns-then-front-eq0-clause-numeral c = λ some. front_is_numeral c.args.kind _ (c.front_len-front.ensures.numeral some)

pub returns-else-back-eq0-clause-numeral : goal.returns-else-back-eq0-clause-numeral
returns-else-back-eq0-clause-numeral c =
    let front = c.front_len-front.result in
    let back = c.integer_len-back.result in
    let text = c.args.text.now in
    let there = subst (λ (l : List ℕ). IsInteger (take back l)) (take_rest text (front + 1)) (c.integer_len-back.ensures.integer (omega arith)) in
    λ _. with_power c.args.kind text front back (omega arith) (sym c.is_power_mark.ensures ∙ c.if-not-is_power_mark.false) (c.front_len-front.ensures.numeral (omega arith)) there

use Rattle.std.proofs.Common.{Bool, List, ℕ, sym, subst, ◌∙◌, arith, take, drop}
use Rattle.std.proofs.lemmas.List.{take_rest}
use Rattle.oim_text.specs.state.Digits.{IsUnsigned}
use Rattle.oim_text.proofs.Numerals.{digits_there, pointed_digits_there}
use Rattle.oim_text.proofs.numeral.front_behind.Goals as goal

pub returns-then-takes_point-clause-numeral : goal.returns-then-takes_point-clause-numeral
returns-then-takes_point-clause-numeral c =
    let start = c.args.start in
    let digits = c.unsigned_len-digits.result.0 in
    let text = c.args.text.now in
    let front = subst (λ (l : List ℕ). IsUnsigned c.unsigned_len-digits.result.1 (take digits l)) (take_rest text start) c.unsigned_len-digits.ensures.shape in
    let shape = subst (λ (b : Bool). IsUnsigned b (take digits (drop start text))) c.if-has_point.true front in
    λ _. pointed_digits_there c.args.kind text start digits c.requires.sign (omega arith) (omega arith) (sym c.takes_point.ensures ∙ c.if-takes_point.true) shape

pub returns-else-digits-eq0-clause-numeral : goal.returns-else-digits-eq0-clause-numeral
returns-else-digits-eq0-clause-numeral c =
    let start = c.args.start in
    let digits = c.unsigned_len-digits.result.0 in
    let text = c.args.text.now in
    let front = subst (λ (l : List ℕ). IsUnsigned c.unsigned_len-digits.result.1 (take digits l)) (take_rest text start) c.unsigned_len-digits.ensures.shape in
    let shape = subst (λ (b : Bool). IsUnsigned b (take digits (drop start text))) c.if-has_point.false front in
    λ _. digits_there c.args.kind text start digits c.requires.sign (omega arith) (omega arith) shape

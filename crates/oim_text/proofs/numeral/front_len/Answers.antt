use Rattle.std.proofs.Common.{List, ℕ, subst, arith, take}
use Rattle.std.specs.Str.Parse.{AllDigits}
use Rattle.std.proofs.lemmas.List.{take_rest}
use Rattle.oim_text.proofs.Numerals.{digits_unsigned}
use Rattle.oim_text.proofs.numeral.front_len.Goals as goal

pub front_behind-requires-clause-sign : goal.front_behind-requires-clause-sign
front_behind-requires-clause-sign c = digits_unsigned c.args.text.now c.args.digits (omega arith) c.requires.digits

pub front_behind-requires-2-clause-digits : goal.front_behind-requires-2-clause-digits
front_behind-requires-2-clause-digits c =
    let start = c.sign_len-start.result in
    let before = c.digits_len-before.result in
    subst (λ (l : List ℕ). AllDigits 10 (take before l)) (take_rest c.args.text.now start) c.digits_len-before.ensures.digits

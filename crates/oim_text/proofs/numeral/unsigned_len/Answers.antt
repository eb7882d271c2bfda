use Rattle.std.proofs.Common.{◌+◌, ℕ, List, take, subst, arith}
use Rattle.std.specs.Str.Parse.{AllDigits}
use Rattle.std.proofs.lemmas.List.{take_rest}
use Rattle.oim_text.proofs.Numerals.{pointed_there}
use Rattle.oim_text.proofs.numeral.unsigned_len.Goals as goal

pub returns-then-text-before-eq46-clause-shape : goal.returns-then-text-before-eq46-clause-shape
returns-then-text-before-eq46-clause-shape c =
    let after = subst (λ (l : List ℕ). AllDigits 10 (take c.digits_len-after.result l)) (take_rest c.args.text.now (c.args.before + 1)) c.digits_len-after.ensures.digits in
    pointed_there c.args.text.now c.args.before c.digits_len-after.result (omega arith) c.if-text-before-eq46.true c.requires.digits after

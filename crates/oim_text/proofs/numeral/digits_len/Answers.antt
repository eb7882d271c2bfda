use Rattle.std.proofs.Common.{arith, subst, take-take, length-take-le}
use Rattle.std.specs.Str.Parse.{AllDigits}
use Rattle.oim_text.proofs.NumeralMarks.{fewer_digits}
use Rattle.oim_text.proofs.numeral.digits_len.Goals as goal

pub returns-then-text-lt-AT_ONCE-clause-digits : goal.returns-then-text-lt-AT_ONCE-clause-digits
returns-then-text-lt-AT_ONCE-clause-digits c = subst (AllDigits 10) (take-take c.digits_one_by_one.result c.args.len c.args.text.now (omega (arith, length-take-le c.args.len c.args.text.now c.requires))) c.digits_one_by_one.ensures.digits

pub returns-else-run-len-clause-digits : goal.returns-else-run-len-clause-digits
returns-else-run-len-clause-digits c = fewer_digits c.args.len c.digits_at_once-run.result c.args.text.now (omega arith) c.digits_at_once-run.ensures

use Rattle.std.proofs.Common.{sym, subst}
use Rattle.std.specs.Str.Parse.{AllDigits}
use Rattle.std.proofs.lemmas.List.{take_more}
use Rattle.oim_text.proofs.Numerals.{digits_push}
use Rattle.oim_text.proofs.numeral.digits_one_by_one.Goals as goal

pub loop-i-preserved : goal.loop-i-preserved
loop-i-preserved c =
    subst (AllDigits 10) (sym (take_more c.args.text.now c.loop-i.i 0 c.loop-i-test.true)) (digits_push _ _ c.loop-i.invariant c.if-not-is_ascii_digit.ensures.bound)

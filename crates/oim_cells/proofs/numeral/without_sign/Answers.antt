use Rattle.std.proofs.Common.{None, arith}
use Rattle.std.proofs.lemmas.Str.Pattern.{strip_prefix_char}
use Rattle.oim_cells.proofs.Digits.{no_sign}
use Rattle.oim_cells.proofs.numeral.without_sign.Goals as goal

pub returns-in-None : goal.returns-in-None
returns-in-None c =
    let x = c.args.text.now in
    no_sign x (strip_prefix_char 45 x None c.in_default.ensures.cases (omega arith)) (strip_prefix_char 43 x None c.in-None.ensures.cases (omega arith))

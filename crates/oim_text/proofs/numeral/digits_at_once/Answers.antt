use Rattle.std.proofs.Common.{◌<◌, arith, map, take}
use lib.Lanes.{mask_l}
use Rattle.oim_text.specs.state.Digits.{is_other}
use Rattle.oim_text.proofs.NumeralMarks.{all_digits, digits_before}
use Rattle.oim_text.proofs.numeral.digits_at_once.Goals as goal

pub returns-then-marks-eq0 : goal.returns-then-marks-eq0
returns-then-marks-eq0 c = all_digits c.args.text.now c.requires (omega (arith, c.other_marks-marks.ensures))

pub returns : goal.returns
returns c =
    let found = c.other_marks-marks.ensures in
    let some : 0 < mask_l (map is_other (take 16 c.args.text.now)) = omega (arith, found) in
    rw found (digits_before c.args.text.now c.requires some)

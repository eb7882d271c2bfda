use Rattle.std.proofs.Common.{sym, ap, ◌∙◌, arith}
use lib.Count.{count_trailing_zeros}
use Rattle.oim_records.specs.state.Bytes.{is_high, is_ascii}
use Rattle.oim_records.proofs.PassingRuns.{not-not, run_bound, run_stops}
use Rattle.oim_records.proofs.utf8.run_end.Goals as goal

pub returns-then-marks-ne0-clause-value : goal.returns-then-marks-ne0-clause-value
returns-then-marks-ne0-clause-value c =
    let found = c.ascii_marks-marks in
    let run = run_stops is_ascii is_high (λ x. not-not (is_high x)) c.args.text.now c.args.from 16 (omega arith) (omega arith) (omega (arith, found.ensures)) ∙ ap (count_trailing_zeros 64) (sym found.ensures) in
    omega (arith, run)

pub returns-then-marks-ne0-clause-within : goal.returns-then-marks-ne0-clause-within
returns-then-marks-ne0-clause-within c =
    let found = c.ascii_marks-marks in
    let run = run_stops is_ascii is_high (λ x. not-not (is_high x)) c.args.text.now c.args.from 16 (omega arith) (omega arith) (omega (arith, found.ensures)) ∙ ap (count_trailing_zeros 64) (sym found.ensures) in
    omega (arith, run, run_bound is_high c.args.text.now c.args.from c.requires)

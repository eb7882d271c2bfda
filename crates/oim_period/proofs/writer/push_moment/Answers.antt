use Rattle.std.proofs.Common.{◌≡◌, ◌+◌, ◌*◌, ◌/◌, ◌%◌, arith, ◌∙◌, string_bytes, ◌++◌, codes}
use Rattle.std.proofs.lemmas.Result.{on_ok_weaker}
use Rattle.oim_period.specs.Digits.{date_text, clock_text}
use Rattle.oim_period.specs.Table.{written}
use Rattle.oim_period.proofs.Bridge.{cast16, cast8}
use Rattle.oim_period.proofs.Split.{joined_three}
use Rattle.oim_period.proofs.Order.{month_length-most}
use Rattle.oim_period.proofs.writer.push_moment.Goals as goal

pub returns : goal.returns
returns c =
    let r = c.date_of-date.result in
    let d = c.date_of-date.ensures in
    let s = c.args.moment.second in
    let most = month_length-most d.0 r.month in
    let ey = cast16 c.year.result d.0 (c.year.ensures ∙ d.1) (omega arith) in
    let em = cast8 c.month.result r.month c.month.ensures (omega arith) in
    let ed = cast8 c.day.result r.day c.day.ensures (omega arith) in
    let a = rw (ey, em, ed) at c.in_ok-push_date.ensures in
    let b = c.in_ok-push_mark.ensures in
    let text = date_text d.0 r.month r.day in
    let clock = clock_text (s / 3600) (s / 60 % 60) (s % 60) in
    let parts : 3600 * (s / 3600) + 60 * (s / 60 % 60) + s % 60 ≡ s = omega arith in
    let w = written d.0 r.month r.day (s / 3600) (s / 60 % 60) (s % 60) d.2 (omega (arith, c.args.moment.second_in)) (omega arith) (omega arith) in
    on_ok_weaker c.push_clock.result (λ e. (text ++ codes "T" ++ clock, e ∙ rw (b, a) (joined_three (string_bytes c.args.text.now) text (codes "T") clock), rw (d.3, parts) at w)) c.push_clock.ensures

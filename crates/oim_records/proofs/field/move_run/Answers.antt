use Rattle.std.proofs.Common.{◌≡◌, ◌+◌, ◌-◌, ◌++◌, refl, sym, ap, ◌∙◌, arith, drop, subst, take}
use Rattle.std.specs.Prelude.{slice_range}
use Rattle.std.specs.List.{prefix_len}
use lib.Count.{count_trailing_zeros}
use Rattle.oim_records.specs.state.Bytes.{is_quote, is_unquoted}
use Rattle.oim_records.proofs.Moves.{behind-on, moved-on, run-on}
use Rattle.oim_records.proofs.PassingRuns.{run_bound, run_short, run_stops, run_through}
use Rattle.oim_records.proofs.Ranges.{same-behind}
use Rattle.oim_records.proofs.field.move_run.Goals as goal

pub move_few-requires : goal.move_few-requires
move_few-requires c =
    let i = c.loop-text.invariant in
    let old = c.args.text.now in
    let mid = c.loop-text.text in
    let at = c.loop-text.at in
    let found = c.quote_marks-marks in
    let stop = run_stops is_quote is_unquoted (λ x. refl) mid at 16 (omega arith) (omega arith) (omega (arith, found.ensures)) ∙ ap (count_trailing_zeros 64) (sym found.ensures) in
    let within = run_bound is_unquoted mid at (omega arith) in
    let short = run_short is_quote is_unquoted (λ x. refl) mid at 16 (omega arith) (omega (arith, found.ensures)) in
    let low = i.low in
    (omega arith, omega arith, omega (arith, stop, short), omega (arith, stop, within))

pub returns-then-marks-ne0-clause-value : goal.returns-then-marks-ne0-clause-value
returns-then-marks-ne0-clause-value c =
    let i = c.loop-text.invariant in
    let old = c.args.text.now in
    let mid = c.loop-text.text in
    let at = c.loop-text.at in
    let found = c.quote_marks-marks in
    let stop = run_stops is_quote is_unquoted (λ x. refl) mid at 16 (omega arith) (omega arith) (omega (arith, found.ensures)) ∙ ap (count_trailing_zeros 64) (sym found.ensures) in
    let on = run-on old mid c.args.place c.args.from at (omega arith) i.low i.run i.behind in
    omega (arith, stop, on)

pub returns-then-marks-ne0-clause-within : goal.returns-then-marks-ne0-clause-within
returns-then-marks-ne0-clause-within c =
    let i = c.loop-text.invariant in
    let old = c.args.text.now in
    let mid = c.loop-text.text in
    let at = c.loop-text.at in
    let found = c.quote_marks-marks in
    let stop = run_stops is_quote is_unquoted (λ x. refl) mid at 16 (omega arith) (omega arith) (omega (arith, found.ensures)) ∙ ap (count_trailing_zeros 64) (sym found.ensures) in
    let within = run_bound is_unquoted mid at (omega arith) in
    omega (arith, stop, within, c.loop-text.auto.text)

pub returns-then-marks-ne0-clause-taken : goal.returns-then-marks-ne0-clause-taken
returns-then-marks-ne0-clause-taken c =
    let i = c.loop-text.invariant in
    let old = c.args.text.now in
    let mid = c.loop-text.text in
    let at = c.loop-text.at in
    let found = c.quote_marks-marks in
    let stop = run_stops is_quote is_unquoted (λ x. refl) mid at 16 (omega arith) (omega arith) (omega (arith, found.ensures)) ∙ ap (count_trailing_zeros 64) (sym found.ensures) in
    let within = run_bound is_unquoted mid at (omega arith) in
    moved-on old mid c.move_few.new.text c.args.place c.args.from at (at + count_trailing_zeros 64 found.result) i.low (omega arith) (omega arith) (omega (arith, stop, within, c.loop-text.auto.text)) i.taken i.behind c.move_few.ensures.taken

pub returns-then-marks-ne0-clause-behind : goal.returns-then-marks-ne0-clause-behind
returns-then-marks-ne0-clause-behind c =
    let i = c.loop-text.invariant in
    let at = c.loop-text.at in
    behind-on c.args.text.now c.loop-text.text c.move_few.new.text c.args.place c.args.from at (at + count_trailing_zeros 64 c.quote_marks-marks.result) i.low (omega arith) i.behind c.move_few.ensures.behind

pub loop-text-preserved : goal.loop-text-preserved
loop-text-preserved c =
    let i = c.loop-text.invariant in
    let old = c.args.text.now in
    let mid = c.loop-text.text in
    let new = c.move_chunk.new.text in
    let place = c.args.place in
    let from = c.args.from in
    let at = c.loop-text.at in
    let low = i.low in
    let run = i.run in
    let same = same-behind mid old (place + (at - from)) at i.behind (omega arith) in
    let later = same-behind mid old (place + (at - from)) (at + 16) i.behind (omega arith) in
    let through = run_through is_quote is_unquoted (λ x. refl) mid at 16 (omega arith) (omega (arith, c.quote_marks-marks.ensures)) in
    let passed : prefix_len is_unquoted (drop at old) ≡ 16 + prefix_len is_unquoted (drop (at + 16) old) =
    ap (prefix_len is_unquoted) (sym same) ∙ through ∙ ap (λ xs. 16 + prefix_len is_unquoted xs) later in
    let size : 16 ≡ at + 16 - at = omega arith in
    let first = subst (λ n. take (place + (at - from) + n) new ≡ take (place + (at - from)) mid ++ slice_range mid at (at + 16)) size c.move_chunk.ensures.taken in
    let second = subst (λ n. drop (place + (at - from) + n) new ≡ drop (place + (at - from) + n) mid) size c.move_chunk.ensures.behind in
    record {
      run = omega (arith, run, passed);
      low = omega arith;
      high = omega (arith, c.move_chunk.auto.text);
      taken = moved-on old mid new place from at (at + 16) low (omega arith) (omega arith) (omega (arith, c.loop-text.auto.text)) i.taken i.behind first;
      behind = behind-on old mid new place from at (at + 16) low (omega arith) i.behind second;
    }

pub move_few-requires-2 : goal.move_few-requires-2
move_few-requires-2 c =
    let i = c.loop-text.invariant in
    let low = i.low in
    let high = i.high in
    let within = run_bound is_unquoted c.loop-text.text c.loop-text.at high in
    let quote = c.next_quote_by_bytes-quote.ensures in
    (omega arith, omega (arith, quote), omega (arith, quote, within), omega (arith, quote, within))

pub returns-clause-value : goal.returns-clause-value
returns-clause-value c =
    let i = c.loop-text.invariant in
    let on = run-on c.args.text.now c.loop-text.text c.args.place c.args.from c.loop-text.at (omega arith) i.low i.run i.behind in
    omega (arith, on, c.next_quote_by_bytes-quote.ensures)

pub returns-clause-within : goal.returns-clause-within
returns-clause-within c =
    let within = run_bound is_unquoted c.loop-text.text c.loop-text.at c.loop-text.invariant.high in
    omega (arith, within, c.next_quote_by_bytes-quote.ensures, c.loop-text.auto.text)

pub returns-clause-taken : goal.returns-clause-taken
returns-clause-taken c =
    let i = c.loop-text.invariant in
    let quote = c.next_quote_by_bytes-quote in
    let within = run_bound is_unquoted c.loop-text.text c.loop-text.at i.high in
    moved-on c.args.text.now c.loop-text.text c.move_few-2.new.text c.args.place c.args.from c.loop-text.at quote.result i.low (omega (arith, quote.ensures)) (omega arith) (omega (arith, quote.ensures, within, c.loop-text.auto.text)) i.taken i.behind c.move_few-2.ensures.taken

pub returns-clause-behind : goal.returns-clause-behind
returns-clause-behind c =
    let i = c.loop-text.invariant in
    let quote = c.next_quote_by_bytes-quote in
    behind-on c.args.text.now c.loop-text.text c.move_few-2.new.text c.args.place c.args.from c.loop-text.at quote.result i.low (omega (arith, quote.ensures)) i.behind c.move_few-2.ensures.behind

use Rattle.std.proofs.Common.{◌∙◌, ap, arith, refl, subst}
use Rattle.oim_rows.specs.RowFacts.{TableHeaderValue}
use Rattle.oim_decode.specs.Blocks.{BlocksLeft, ReadsBehind}
use Rattle.oim_decode.specs.state.Blocks.{HasReadOn, RowsUnread, blocks_left}
use Rattle.oim_decode.specs.state.RowParts.{with_rest}
use Rattle.oim_decode.proofs.Advances.{moves_on, same_left, same_rows, unanswered}
use Rattle.oim_decode.proofs.table.table_blocks.fill.Goals as goal

pub fill_with_rows-requires-clause-closed : goal.fill_with_rows-requires-clause-closed
fill_with_rows-requires-clause-closed g c =
    λ settled. let none = c.requires settled in let same = c.fill_from_row.ensures.closed none in ap (λ (r : RowsUnread). r.rest) same.1 ∙ none

pub returns-in-Ok-clause-reads : goal.returns-in-Ok-clause-reads
returns-in-Ok-clause-reads g c =
    let same = same_left c.args.rows.now c.fill_from_row.new.rows c.args.facts.now c.fill_from_row.new.facts c.args.settled.now c.fill_from_row.ensures.same c.in-Ok.ensures.facts in
    subst (λ (b : BlocksLeft). HasReadOn b (blocks_left c.fill_with_rows.new.rows c.fill_with_rows.new.facts c.fill_with_rows.new.settled)) same c.fill_with_rows.ensures.reads

pub returns-in-Ok-clause-behind : goal.returns-in-Ok-clause-behind
returns-in-Ok-clause-behind g c =
    let same = same_left c.args.rows.now c.fill_from_row.new.rows c.args.facts.now c.fill_from_row.new.facts c.args.settled.now c.fill_from_row.ensures.same c.in-Ok.ensures.facts in
    λ live. subst (λ (b : BlocksLeft). ReadsBehind b (blocks_left c.fill_with_rows.new.rows c.fill_with_rows.new.facts c.fill_with_rows.new.settled)) same (c.fill_with_rows.ensures.behind live)

pub returns-in-Ok-clause-counts : goal.returns-in-Ok-clause-counts
returns-in-Ok-clause-counts g c =
    let same = same_rows c.args.rows.now c.fill_from_row.new.rows c.fill_from_row.ensures.same in
    (omega (arith, same.1, c.fill_with_rows.ensures.counts.0), c.fill_with_rows.ensures.counts.1)

pub returns-in-Ok-clause-moves : goal.returns-in-Ok-clause-moves
returns-in-Ok-clause-moves g c =
    let old = c.args.rows.now in
    let from = c.fill_from_row.new.rows in
    let new = c.fill_with_rows.new.rows in
    moves_on old.given from.given new.given (with_rest c.args.facts.now old.rest) (with_rest c.fill_from_row.new.facts from.rest) (with_rest c.fill_with_rows.new.facts new.rest)
    (same_rows old from c.fill_from_row.ensures.same).1 c.in-Ok.ensures.facts c.fill_with_rows.ensures.moves

pub returns-in-Ok-clause-again : goal.returns-in-Ok-clause-again
returns-in-Ok-clause-again g c =
    let same = same_left c.args.rows.now c.fill_from_row.new.rows c.args.facts.now c.fill_from_row.new.facts c.args.settled.now c.fill_from_row.ensures.same c.in-Ok.ensures.facts in
    λ settled. (refl, c.fill_with_rows.ensures.again settled ∙ same)

pub returns-in-Ok-clause-same : goal.returns-in-Ok-clause-same
returns-in-Ok-clause-same g c =
    let same = same_rows c.args.rows.now c.fill_from_row.new.rows c.fill_from_row.ensures.same in (
      c.fill_with_rows.ensures.same.0 ∙ ap (λ (h : TableHeaderValue). h.table) same.0,
      c.fill_with_rows.ensures.same.1 ∙ ap (λ (h : TableHeaderValue). h.limit) same.0,
    )

pub returns-in-Err-clause-counts : goal.returns-in-Err-clause-counts
returns-in-Err-clause-counts g c =
    let same = same_rows c.args.rows.now c.fill_from_row.new.rows c.fill_from_row.ensures.same in
    (omega (arith, same.1), c.fill_from_row.ensures.within)

pub returns-in-Err-clause-again : goal.returns-in-Err-clause-again
returns-in-Err-clause-again g c = λ settled. absurd (let no = (c.in-Err.ensures.closed (c.requires settled)).0 in cc no)

pub returns-in-Err-clause-lost : goal.returns-in-Err-clause-lost
returns-in-Err-clause-lost g c =
    let same = same_rows c.args.rows.now c.fill_from_row.new.rows c.fill_from_row.ensures.same in
    (same.1, same.2, unanswered c.args.settled.now (λ settled. let no = (c.in-Err.ensures.closed (c.requires settled)).0 in cc no))

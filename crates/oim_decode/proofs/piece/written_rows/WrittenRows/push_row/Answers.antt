use Rattle.std.proofs.Common.{◌∷◌, ◌++◌, ◌∙◌, [], ap}
use Rattle.oim_fast.specs.Facts.{facts_of_row}
use Rattle.oim_decode.specs.state.RowTexts.{facts_of_answer}
use Rattle.oim_decode.proofs.RowCounts.{row_counted}
use Rattle.oim_decode.proofs.piece.written_rows.WrittenRows.push_row.Goals as goal

pub invariant_of-self-in-Ok : goal.invariant_of-self-in-Ok
invariant_of-self-in-Ok c =
    let held = c.self.inside in
    row_counted held.facts c.push_row.new.self (facts_of_answer (facts_of_row c.args.row.now)) held.ends.items c.push_reserved.new.self.items held.rows.value c.then-rows.result.value c.count.result
    c.self.invariant.0 c.self.invariant.1 c.in-Ok.ensures.facts.1 c.then-rows.ensures c.count.ensures
    (c.push_reserved.ensures.items ∙ ap (λ t. t ++ c.count.result ∷ []) c.reserve.ensures.items)

use Rattle.std.proofs.Common.{◌∙◌}
use Rattle.oim_decode.proofs.RowCounts.{none_counted}
use Rattle.oim_decode.proofs.piece.written_rows.WrittenRows.within.Goals as goal

pub invariant_of-result : goal.invariant_of-result
invariant_of-result c =
    let none = none_counted c.none.result.value c.none.ensures in
    (c.within.ensures ∙ none.0, c.new.ensures.items ∙ none.1)

use Rattle.std.proofs.Common.{Ok, inr, ap, ◌∙◌}
use Rattle.oim_resolve.specs.state.ProgramCell.{cell_at}
use Rattle.oim_resolve.specs.Written.{levels, names}
use Rattle.oim_resolve.proofs.Ascending.{given_ascends}
use Rattle.oim_resolve.proofs.Outcomes.{fact_fault, fact_whole, read_together}
use Rattle.oim_resolve.proofs.RowFacts.{row_read}
use Rattle.oim_resolve.proofs.cell.dimensions.CellDimensions.fact.Goals as goal

pub fact_with-requires : goal.fact_with-requires
fact_with-requires c =
    let cell = cell_at c.args.self.now.place in
    let k = c.args.value.kind in
    let dimensions = c.in_ok-dimensions.ensures ∙ row_read cell k (names (levels cell)) in
    let together = read_together cell k _ _ c.suffix.result _ _ _ _ _ _ _ c.both-2.result c.requires.meaning c.fact_value-reading.ensures c.suffix.ensures
    c.stated.ensures dimensions c.decimals-decimals.ensures c.wanted_fault-wanted.ensures c.in_ok-text.ensures.text c.both.ensures c.or_fault.ensures c.both-2.ensures in
    given_ascends cell k c.in-Ok.given c.both-2.result c.in-Ok.is together

pub returns : goal.returns
returns c =
    let cell = cell_at c.args.self.now.place in
    let k = c.args.value.kind in
    let dimensions = c.in_ok-dimensions.ensures ∙ row_read cell k (names (levels cell)) in
    let together = read_together cell k _ _ c.suffix.result _ _ _ _ _ _ _ c.both-2.result c.requires.meaning c.fact_value-reading.ensures c.suffix.ensures
    c.stated.ensures dimensions c.decimals-decimals.ensures c.wanted_fault-wanted.ensures c.in_ok-text.ensures.text c.both.ensures c.or_fault.ensures c.both-2.ensures in
    inr (ap Ok c.fact_with.ensures ∙ fact_whole cell k _ c.in-Ok.given c.both-2.result c.requires.kind c.in_ok-id.ensures c.in-Ok.is together)

pub returns-in-Err : goal.returns-in-Err
returns-in-Err c =
    let cell = cell_at c.args.self.now.place in
    let k = c.args.value.kind in
    let dimensions = c.in_ok-dimensions.ensures ∙ row_read cell k (names (levels cell)) in
    let together = read_together cell k _ _ c.suffix.result _ _ _ _ _ _ _ c.both-2.result c.requires.meaning c.fact_value-reading.ensures c.suffix.ensures
    c.stated.ensures dimensions c.decimals-decimals.ensures c.wanted_fault-wanted.ensures c.in_ok-text.ensures.text c.both.ensures c.or_fault.ensures c.both-2.ensures in
    inr (fact_fault cell k c.in-Err.fault c.both-2.result c.requires.kind c.in-Err.is together)

use Rattle.std.proofs.Common.{◌≡◌, ◌≤◌, ◌∙◌, ap, arith, length, sym, take}
use Rattle.oim_rows.specs.Streams.{facts_of_rows}
use Rattle.oim_decode.specs.state.RowEnds.{counts_from}
use Rattle.oim_decode.proofs.RowCuts.{all_taken, count_before, counts_length, counts_take, facts_of_first, first_within}
use Rattle.oim_decode.proofs.piece.written_rows.WrittenRows.cut.Goals as goal

pub returns-then-count-len : goal.returns-then-count-len
returns-then-count-len c =
    all_taken c.args.self.now c.args.count
    (omega (arith, c.len.ensures, c.if-count-len.true, ap length c.self.invariant.1, counts_length 0 c.self.inside.rows.value, ap length c.self.view_is))

pub keep_first-requires : goal.keep_first-requires
keep_first-requires c =
    let rows = c.self.inside.rows.value in
    let ends : c.as_slice.result.now ≡ counts_from 0 rows = c.as_slice.ensures.value ∙ c.self.invariant.1 in
    let within : c.args.count ≤ length rows = omega (arith, c.len.ensures, c.if-count-len.false, ap length c.self.invariant.1, counts_length 0 rows) in
    let here = count_before c.args.count rows c.as_slice.result.now c.facts_before-facts.result ends within c.facts_before-facts.ensures.none c.facts_before-facts.ensures.end in
    first_within c.args.count c.facts_before-facts.result rows c.self.inside.facts c.self.invariant.0 here

pub invariant_of-self : goal.invariant_of-self
invariant_of-self c =
    let rows = c.self.inside.rows.value in
    let ends : c.as_slice.result.now ≡ counts_from 0 rows = c.as_slice.ensures.value ∙ c.self.invariant.1 in
    let within : c.args.count ≤ length rows = omega (arith, c.len.ensures, c.if-count-len.false, ap length c.self.invariant.1, counts_length 0 rows) in
    let here = count_before c.args.count rows c.as_slice.result.now c.facts_before-facts.result ends within c.facts_before-facts.ensures.none c.facts_before-facts.ensures.end in (
      c.keep_first.ensures ∙ facts_of_first c.args.count c.facts_before-facts.result rows c.self.inside.facts c.self.invariant.0 here ∙ ap facts_of_rows (sym c.first.ensures),
      c.truncate.ensures.items ∙ ap (take c.args.count) c.self.invariant.1 ∙ counts_take c.args.count 0 rows ∙ ap (counts_from 0) (sym c.first.ensures),
    )

use Rattle.std.proofs.Common.{Some, None, refl, sym, ◌∙◌, get_or, take}
use Rattle.oim_rows.proofs.Repeats.{goes_on, index_more, index_stays, no_column_there, stops_here, was_there}
use Rattle.oim_rows.proofs.header_columns.add_columns.Goals.{in-Some+in_ok-add_column+else-branch, in_default}
use Rattle.oim_rows.proofs.header_columns.add_columns.Goals as goal

pub returns-then-branch-clause-repeated : goal.returns-then-branch-clause-repeated
returns-then-branch-clause-repeated c =
    let header = c.args.header.now in
    let i = c.loop-place.place in
    let there = sym (was_there c.loop-place.places (take i header) c.in-Some.column c.loop-place.invariant.index) ∙ sym c.in_ok-add_column.ensures.was ∙ c.if-branch.true in
    stops_here header i (Some c.in-Some.column) None c.loop-place-test.true c.in-Some.is c.loop-place.invariant.whole there

pub loop-place-preserved : goal.loop-place-preserved
loop-place-preserved c =
    let header = c.args.header.now in
    let i = c.loop-place.place in
    let index = c.loop-place.places in
    elim c.match-header-place.branch [
      | in-Some+in_ok-add_column+else-branch w ↦ (
          let x = w.in-Some.column in
          let fresh = sym w.in_ok-add_column.ensures.was ∙ w.if-branch.false in
          let apart = sym (was_there index (take i header) x c.loop-place.invariant.index) ∙ fresh in
          record {
            whole = goes_on header i (Some x) None c.loop-place-test.true w.in-Some.is c.loop-place.invariant.whole apart;
            index = rw w.places-is (index_more index w.add_column.new.places header i x None c.loop-place-test.true w.in-Some.is fresh w.in_ok-add_column.ensures.adds.0 c.loop-place.invariant.index);
          })
      | in_default w ↦ (
          let none = no_column_there (get_or header i None) w.in_default.not-Some in
          record {
            whole = goes_on header i None None c.loop-place-test.true none c.loop-place.invariant.whole refl;
            index = rw w.places-is (index_stays index header i None c.loop-place-test.true none c.loop-place.invariant.index);
          })
    ]

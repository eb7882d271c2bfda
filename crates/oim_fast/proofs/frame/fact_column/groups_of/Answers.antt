use Rattle.std.proofs.Common.{◌≡◌, ℕ, List, Some, get_or, map, refl, subst, sym, take, ◌+◌}
use Rattle.oim_fast.proofs.ColumnLaws.{column_at, place_more, places_grow}
use Rattle.oim_row.proofs.Growth.{grows_twice}
use Rattle.oim_fast.proofs.frame.fact_column.groups_of.Goals as goal

pub loop-i-preserved : goal.loop-i-preserved
loop-i-preserved c =
    let before = c.loop-i.cells.list.items in
    let after = c.place_for.new.self.list.items in
    let from = c.as_slice-from.result.now in
    let i = c.loop-i.i in
    let places = places_grow before after c.loop-i.groups.items (take i from) c.in_ok-place.ensures.grows c.loop-i.invariant.places in
    record {
      cells = c.in_ok-place.ensures.cells;
      grows = grows_twice c.args.cells.now.list.items before after c.loop-i.invariant.grows c.in_ok-place.ensures.grows;
      places = subst (λ (ps : List ℕ). map (column_at after) ps ≡ map Some (take (i + 1) from)) (sym c.in_ok-push.ensures.items)
          (place_more after c.loop-i.groups.items from i c.in_ok-place.place (get_or from i 0) 0 c.loop-i-test.true refl places c.in_ok-place.ensures.place);
    }

use Rattle.std.proofs.Common.{◌≡◌, ◌<◌, ℕ, length, get_or, sym, ap, subst, arith, refl, ◌∙◌}
use Rattle.std.proofs.lemmas.List.{length-map}
use Rattle.oim_row.specs.Groups.{IsGroupCell, IsSaid}
use Rattle.oim_row.specs.declared.group_cells.GroupCell.{GroupCell}
use Rattle.oim_row.proofs.Refreshed.{set_map, set_below, set_all}
use Rattle.oim_row.proofs.group_cells.GroupCells.refresh.Goals as goal

abbrev column_of : GroupCell → ℕ
column_of g = g.column

pub loop-i-preserved : goal.loop-i-preserved
loop-i-preserved c =
    let xs = c.loop-i.self.list.items in
    let i = c.loop-i.i in
    let x = c.index_mut-cell.result.now in
    let y : GroupCell = record x { choice = c.choice_in-cell.result } in
    let a = c.args.row.now in
    let len : length xs ≡ length c.args.self.now.list.items = sym (length-map xs column_of) ∙ ap length c.loop-i.invariant.columns ∙ length-map c.args.self.now.list.items column_of in
    let b : i < length xs = omega (arith, c.len-i-end.ensures) in
    let is : x ≡ get_or xs i x = c.index_mut-cell.ensures.value in
    let cell : IsGroupCell a.header x = subst (IsGroupCell a.header) (sym is) (c.loop-i.invariant.cells i x b) in
    let kept : IsGroupCell a.header y = record { range = cell.range; place = cell.place; groups = cell.groups; rising = cell.rising } in
    record {
      columns = set_map column_of xs i x y b is refl ∙ c.loop-i.invariant.columns;
      cells = set_all (IsGroupCell a.header) xs i y c.loop-i.invariant.cells kept;
      said = λ k d h. set_below (IsSaid a) xs i y b c.loop-i.invariant.said c.choice_in-cell.ensures k d (omega arith);
    }

use Rattle.std.proofs.Common.{◌≡◌, ◌<◌, ℕ, map, get_or}
use Rattle.std.specs.List.{All}
use Rattle.oim_row.specs.Groups.{IsGroupCell, IsSaid}
use Rattle.oim_row.specs.declared.group_cells.GroupCell.{GroupCell}
use Rattle.oim_row.proofs.group_cells.GroupCells.refresh.Given as goal

abbrev pub invariant-loop-i : goal.invariant-loop-i
invariant-loop-i l = record {
  columns : map (λ (g : GroupCell). g.column) l.self.list.items ≡ map (λ (g : GroupCell). g.column) l.fn.self.list.items;
  cells : All (IsGroupCell l.row.header) l.self.list.items;
  said : (k : ℕ) (d : GroupCell) → k < l.i → IsSaid l.row (get_or l.self.list.items k d);
}

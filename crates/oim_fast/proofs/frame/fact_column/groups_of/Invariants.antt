use Rattle.std.proofs.Common.{◌≡◌, map, take, Some}
use Rattle.std.specs.List.{All}
use Rattle.oim_row.specs.Groups.{IsGroupCell}
use Rattle.oim_row.specs.References.{Grows}
use Rattle.oim_fast.proofs.ColumnLaws.{column_at}
use Rattle.oim_fast.proofs.frame.fact_column.groups_of.Given as goal

abbrev pub invariant-loop-i : goal.invariant-loop-i
invariant-loop-i l = record {
  cells : All (IsGroupCell l.header) l.cells.list.items;
  grows : Grows l.fn.cells.list.items l.cells.list.items;
  places : map (column_at l.cells.list.items) l.groups.items ≡ map Some (take l.i l.from);
}

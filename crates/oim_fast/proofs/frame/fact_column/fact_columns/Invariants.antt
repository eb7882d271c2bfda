use Rattle.std.proofs.Common.{◌≡◌, map, take}
use Rattle.std.specs.List.{All}
use Rattle.oim_fast.specs.Facts.{fact_columns_in}
use Rattle.oim_fast.specs.state.Columns.{IsFactColumn}
use Rattle.oim_row.specs.Groups.{IsGroupCell}
use Rattle.oim_fast.specs.declared.frame.fact_column.FactColumn.{FactColumn}
use Rattle.oim_fast.proofs.frame.fact_column.fact_columns.Given as goal

abbrev pub invariant-loop-i : goal.invariant-loop-i
invariant-loop-i l = record {
  cells : All (IsGroupCell l.header) l.cells.list.items;
  columns : map (λ (c : FactColumn). c.column) l.facts.items ≡ fact_columns_in l.header (take l.i l.header.columns);
  are : All (IsFactColumn l.header l.cells.list.items) l.facts.items;
}

use Rattle.std.proofs.Common.{◌≡◌, ◌++◌, take}
use Rattle.std.specs.List.{All, flat_map}
use Rattle.std.specs.Option.{option_to_list}
use Rattle.oim_report.specs.InOrder.{LevelRises}
use Rattle.oim_resolve.specs.ProgramCell.{held}
use Rattle.oim_resolve.specs.Written.{group_of_cell}
use Rattle.oim_resolve.specs.ProgramOrigins.{seen_cell}
use Rattle.oim_resolve.proofs.cell.cell_of.CellOf.push_groups.Given as goal

abbrev pub invariant-loop-i : goal.invariant-loop-i
invariant-loop-i l = record {
  groups : held l.levels.items ≡ held l.fn.levels.items ++ flat_map (λ i. option_to_list (group_of_cell (seen_cell l.self) i)) (take l.i-index l.i-items);
  rise : All (λ x. LevelRises x.now) l.levels.items;
}

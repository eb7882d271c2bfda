use Rattle.std.proofs.Common.{◌≡◌, ◌++◌, take}
use Rattle.oim_resolve.specs.ProgramCell.{held}
use Rattle.oim_fast.specs.state.ChosenGroups.{levels_at}
use Rattle.oim_fast.proofs.frame.frame_maker.push_groups.Given as goal

abbrev pub invariant-loop-group : goal.invariant-loop-group
invariant-loop-group l = held l.levels.items ≡ held l.fn.levels.items ++ levels_at l.cells.list.items (take l.group-index l.groups)

use Rattle.std.proofs.Common.{◌≡◌, take}
use Rattle.oim_fast.specs.state.ChosenGroups.{choices_in}
use Rattle.oim_fast.proofs.frame.frame_maker.choices_of.Given as goal

abbrev pub invariant-loop-i : goal.invariant-loop-i
invariant-loop-i l = l.choices.items ≡ choices_in l.cells.list.items (take l.i l.column.groups.items)

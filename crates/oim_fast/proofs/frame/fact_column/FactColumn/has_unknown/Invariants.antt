use Rattle.std.proofs.Common.{◌≡◌, take, true}
use Rattle.std.specs.List.{All}
use Rattle.oim_fast.specs.state.Frames.{is_known_choice}
use Rattle.oim_fast.specs.state.ChosenGroups.{choices_in}
use Rattle.oim_fast.proofs.frame.fact_column.FactColumn.has_unknown.Given as goal

abbrev pub invariant-loop-i : goal.invariant-loop-i
invariant-loop-i l = All (λ o. is_known_choice o ≡ true) (choices_in l.cells.list.items (take l.i l.self.groups.items))

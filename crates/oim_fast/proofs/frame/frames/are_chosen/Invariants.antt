use Rattle.std.proofs.Common.{◌≡◌, take, true}
use Rattle.std.specs.List.{All}
use Rattle.oim_fast.specs.state.Frames.{is_known_choice}
use Rattle.oim_fast.specs.state.ChosenGroups.{choices_in}
use Rattle.oim_fast.proofs.frame.frames.are_chosen.Given as goal

abbrev pub invariant-loop-i : goal.invariant-loop-i
invariant-loop-i l = record {
  same : take l.i l.choices ≡ choices_in l.cells.list.items (take l.i l.groups);
  known : All (λ o. is_known_choice o ≡ true) (take l.i l.choices);
}

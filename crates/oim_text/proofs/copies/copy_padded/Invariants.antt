use Rattle.std.proofs.Common.{◌+◌, ◌-◌, ◌≤◌, length, take}
use Rattle.oim_text.specs.Places.{Placed}
use Rattle.oim_text.proofs.copies.copy_padded.Given as goal

abbrev pub invariant-loop-done : goal.invariant-loop-done
invariant-loop-done l = record {
  within : l.done ≤ l.len + 32;
  bytes : Placed l.fn.memory l.memory l.at (take l.done l.text) (l.at + l.done);
}

abbrev pub decreases-loop-done : goal.decreases-loop-done
decreases-loop-done l = length l.text - l.done

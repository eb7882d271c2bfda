use Rattle.std.proofs.Common.{◌≡◌, ◌+◌, ◌-◌, ◌≤◌, ◌++◌, drop, take}
use Rattle.std.specs.Prelude.{slice_range}
use Rattle.oim_records.proofs.field.move_down.Given as goal

abbrev pub invariant-loop-at : goal.invariant-loop-at
invariant-loop-at l = record {
  low : l.fn.from ≤ l.at;
  high : l.at ≤ l.fn.to;
  taken : take (l.fn.place + (l.at - l.fn.from)) l.text ≡ take l.fn.place l.fn.text ++ slice_range l.fn.text l.fn.from l.at;
  behind : drop (l.fn.place + (l.at - l.fn.from)) l.text ≡ drop (l.fn.place + (l.at - l.fn.from)) l.fn.text;
}

abbrev pub decreases-loop-at : goal.decreases-loop-at
decreases-loop-at l = l.fn.to - l.at

use Rattle.std.proofs.Common.{◌≡◌, ◌+◌, ◌-◌, ◌≤◌, ◌++◌, drop, length, take}
use Rattle.std.specs.List.{prefix_len}
use Rattle.std.specs.Prelude.{slice_range}
use Rattle.oim_records.specs.state.Bytes.{is_unquoted}
use Rattle.oim_records.proofs.field.move_run.Given as goal

abbrev pub invariant-loop-text : goal.invariant-loop-text
invariant-loop-text l = record {
  run : l.fn.from + prefix_len is_unquoted (drop l.fn.from l.fn.text) ≡ l.at + prefix_len is_unquoted (drop l.at l.fn.text);
  low : l.fn.from ≤ l.at;
  high : l.at ≤ length l.text;
  taken : take (l.fn.place + (l.at - l.fn.from)) l.text ≡ take l.fn.place l.fn.text ++ slice_range l.fn.text l.fn.from l.at;
  behind : drop (l.fn.place + (l.at - l.fn.from)) l.text ≡ drop (l.fn.place + (l.at - l.fn.from)) l.fn.text;
}

abbrev pub decreases-loop-text : goal.decreases-loop-text
decreases-loop-text l = length l.text - l.at

use Rattle.std.proofs.Common.{◌+◌, ◌≤◌}
use Rattle.oim_records.specs.state.Fields.{ReadsOn}
use Rattle.oim_records.proofs.Ends.{AreEnds}
use Rattle.oim_records.proofs.record.read_plain.Given as goal

abbrev pub invariant-loop-left : goal.invariant-loop-left
invariant-loop-left l = record {
  fields : ReadsOn l.text l.fn.ranges.items l.ranges.items l.fn.from l.start;
  low : l.fn.from ≤ l.start;
  high : l.start ≤ l.fn.from + 64;
  marks : AreEnds l.text l.fn.from l.start l.left;
}

abbrev pub decreases-loop-left : goal.decreases-loop-left
decreases-loop-left l = l.left

use Rattle.std.proofs.Common.{◌≡◌, ◌<◌, ◌^◌, ◌-◌}
use Rattle.oim_places.proofs.record_lines.RecordLines.line_of.Given as goal

abbrev pub invariant-loop : goal.invariant-loop
invariant-loop g l = (l.self.file ≡ l.fn.self.file) × (l.self.next ≡ l.fn.number) × (l.fn.number < 2 ^ 64 - 1)

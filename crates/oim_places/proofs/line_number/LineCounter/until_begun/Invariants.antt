use Rattle.std.proofs.Common.{◌≡◌, ◌≤◌, ◌-◌, false, fold, length, take}
use Rattle.oim_places.specs.LineNumbers.{after_byte}
use Rattle.oim_places.proofs.line_number.LineCounter.until_begun.Given as goal

abbrev pub invariant-loop-at : goal.invariant-loop-at
invariant-loop-at l = (l.at ≤ length l.bytes) × (l.lines ≡ fold after_byte l.fn.self (take l.at l.bytes)) × (l.lines.has_begun ≡ false)

abbrev pub decreases-loop-at : goal.decreases-loop-at
decreases-loop-at l = length l.bytes - l.at

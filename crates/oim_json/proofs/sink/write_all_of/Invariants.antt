use Rattle.std.proofs.Common.{length, take, ◌-◌, ◌≡◌, ◌≤◌}
use Rattle.std.specs.Io.KnownBytes.{Appends}
use Rattle.oim_json.proofs.sink.write_all_of.Given as goal

-- The mark is unchanged, and the bytes so far were written.
abbrev pub invariant-loop-at : goal.invariant-loop-at
invariant-loop-at g l =
    (l.at ≤ length l.bytes)
    × ((g.W.Sink.seen l.sink).mark ≡ (g.W.Sink.seen l.fn.sink).mark)
    × Appends (g.W.Sink.seen l.fn.sink).told (g.W.Sink.seen l.sink).told (take l.at l.bytes)

abbrev pub decreases-loop-at : goal.decreases-loop-at
decreases-loop-at g l = length l.bytes - l.at

use Rattle.std.proofs.Common.{◌≡◌, ◌-◌, map, take}
use Rattle.oim_decode.proofs.table.pending_facts.counted_from.Given as goal

abbrev pub invariant-loop-end : goal.invariant-loop-end
invariant-loop-end l = l.counted.items ≡ map (λ end. end - l.start) (take l.end-index l.ends)

use Rattle.std.proofs.Common.{◌≤◌, ◌-◌, ◌+◌, drop, length}
use Rattle.std.specs.List.{fold}
use Rattle.oim_resolve.specs.Order.{IsAscending}
use Rattle.oim_resolve.specs.ProgramCell.{held}
use Rattle.oim_resolve.specs.Written.{put_name}
use Rattle.oim_resolve.proofs.Merges.{IsMerged}
use Rattle.oim_resolve.proofs.levels.merged.Given as goal

abbrev pub invariant-loop-i : goal.invariant-loop-i
invariant-loop-i l = record {
  within_first : l.i ≤ length l.first;
  within_second : l.j ≤ length l.second;
  rise : IsAscending (held (drop l.j l.second));
  so_far : IsMerged (held (drop l.i l.first)) (held (drop l.j l.second)) (held l.names.items) (fold put_name (held l.first) (held l.second));
}

abbrev pub decreases-loop-i : goal.decreases-loop-i
decreases-loop-i l = (length l.first - l.i) + (length l.second - l.j)

use Rattle.std.proofs.Common.{◌≡◌, drop}
use Rattle.oim_resolve.specs.ProgramCell.{held}
use Rattle.oim_resolve.proofs.Overrides.{first_decimals}
use Rattle.oim_resolve.proofs.levels.written_decimals.Given as goal

abbrev pub invariant-loop-level : goal.invariant-loop-level
invariant-loop-level l = first_decimals (held (drop l.level-index l.levels)) ≡ first_decimals (held l.levels)

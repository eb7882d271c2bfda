use Rattle.std.proofs.Common.{◌≡◌, drop}
use Rattle.oim_resolve.specs.ProgramCell.{held}
use Rattle.oim_resolve.proofs.Overrides.{first_written}
use Rattle.oim_resolve.proofs.levels.written.Given as goal

abbrev pub invariant-loop-level : goal.invariant-loop-level
invariant-loop-level l = first_written (held (drop l.level-index l.levels)) l.name ≡ first_written (held l.levels) l.name

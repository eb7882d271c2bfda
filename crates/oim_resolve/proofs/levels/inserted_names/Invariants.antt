use Rattle.std.proofs.Common.{◌≡◌, take, reverse}
use Rattle.oim_resolve.specs.ProgramCell.{held}
use Rattle.oim_resolve.specs.Written.{names}
use Rattle.oim_resolve.proofs.levels.inserted_names.Given as goal

abbrev pub invariant-loop-level : goal.invariant-loop-level
invariant-loop-level l = held l.names.items ≡ names (reverse (held (take l.level-index l.levels)))

use Rattle.std.proofs.Common.{length}
use Rattle.oim_resolve.proofs.levels.+names.Given as goal

abbrev pub decreases-names : goal.decreases-names
decreases-names l = length l.levels.now

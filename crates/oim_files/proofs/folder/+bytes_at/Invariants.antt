use Rattle.std.proofs.Common.{length}
use Rattle.oim_files.proofs.folder.+bytes_at.Given as goal

abbrev pub decreases-bytes_at : goal.decreases-bytes_at
decreases-bytes_at l = length l.files.now

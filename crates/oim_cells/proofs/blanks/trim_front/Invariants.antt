use Rattle.std.proofs.Common.{◌≡◌, length}
use Rattle.std.specs.Str.{IsUtf8}
use Rattle.oim_cells.specs.Blanks.{without_front}
use Rattle.oim_cells.proofs.blanks.trim_front.Given as goal

abbrev pub invariant-loop-rest : goal.invariant-loop-rest
invariant-loop-rest l = (without_front l.trimmed ≡ without_front l.text) × IsUtf8 l.trimmed

abbrev pub decreases-loop-rest : goal.decreases-loop-rest
decreases-loop-rest l = length l.trimmed

use Rattle.std.proofs.Common.{◌≡◌, drop}
use Rattle.xbrl_json_c.specs.Answers.{files_at}
use Rattle.xbrl_json_c.proofs.files.bytes_at.Given as goal

abbrev pub invariant-loop-file : goal.invariant-loop-file
invariant-loop-file l = files_at (drop l.file-index l.files) l.path ≡ files_at l.files l.path

use Rattle.std.proofs.Common.{◌≡◌, drop}
use Rattle.std.specs.List.{list_any}
use Rattle.oim_names.specs.PlainPath.{is_barred}
use Rattle.oim_names.proofs.paths.has_barred.Given as goal

abbrev pub invariant-loop-byte : goal.invariant-loop-byte
invariant-loop-byte l = list_any is_barred l.path ≡ list_any is_barred (drop l.byte-index l.path)

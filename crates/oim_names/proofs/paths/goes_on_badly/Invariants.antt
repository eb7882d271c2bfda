use Rattle.std.proofs.Common.{◌≡◌, drop}
use Rattle.std.specs.List.{list_any}
use Rattle.oim_names.specs.PlainPath.{is_bad_segment, later_segments}
use Rattle.oim_names.proofs.paths.goes_on_badly.Given as goal

abbrev pub invariant-loop-i : goal.invariant-loop-i
invariant-loop-i l = list_any is_bad_segment (later_segments l.path) ≡ list_any is_bad_segment (later_segments (drop l.i l.path))

use Rattle.std.proofs.Common.{◌≡◌, length}
use Rattle.std.specs.List.{list_all}
use Rattle.std.specs.Str.{IsUtf8}
use Rattle.oim_schema.specs.Members.{parts_of}
use Rattle.oim_resolve.specs.Kinds.{is_known_part}
use Rattle.oim_resolve.proofs.reading.are_known.Given as goal

abbrev pub invariant-loop-part : goal.invariant-loop-part
invariant-loop-part l = (list_all (is_known_part l.report) (parts_of l.others) ≡ list_all (is_known_part l.report) (parts_of l.text)) × IsUtf8 l.others

abbrev pub decreases-loop-part : goal.decreases-loop-part
decreases-loop-part l = length l.others

use Rattle.std.proofs.Common.{◌≡◌, length}
use Rattle.std.specs.Str.{IsUtf8}
use Rattle.oim_schema.specs.Members.{names_one, parts_of}
use Rattle.oim_schema.proofs.members.names_again.Given as goal

abbrev pub invariant-loop-part : goal.invariant-loop-part
invariant-loop-part l = (names_one l.names (l.uri, l.local) (parts_of l.others) ≡ names_one l.names (l.uri, l.local) (parts_of l.text)) × IsUtf8 l.others

abbrev pub decreases-loop-part : goal.decreases-loop-part
decreases-loop-part l = length l.others

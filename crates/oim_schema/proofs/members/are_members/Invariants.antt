use Rattle.std.proofs.Common.{◌≡◌, length}
use Rattle.std.specs.Str.{IsUtf8}
use Rattle.oim_schema.specs.Members.{are_members, parts_of}
use Rattle.oim_schema.proofs.members.are_members.Given as goal

abbrev pub invariant-loop-part : goal.invariant-loop-part
invariant-loop-part l = (are_members l.names (parts_of l.others) ≡ are_members l.names (parts_of l.text)) × IsUtf8 l.others

abbrev pub decreases-loop-part : goal.decreases-loop-part
decreases-loop-part l = length l.others

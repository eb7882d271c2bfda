use Rattle.std.proofs.Common.{◌≡◌, ◌&&◌, length}
use Rattle.std.specs.Str.{IsUtf8}
use Rattle.oim_schema.specs.Members.{are_members, parts_of}
use Rattle.oim_schema.specs.state.HeldMembers.{holds}
use Rattle.oim_schema.proofs.HeldLaws.{free}
use Rattle.oim_schema.proofs.held_members.are_held_members.Given as goal

abbrev pub invariant-loop-part : goal.invariant-loop-part
invariant-loop-part l =
    (are_members l.names (parts_of l.text) ≡ (are_members l.names (parts_of l.others) && free l.names (holds l.members) (parts_of l.others))) × IsUtf8 l.others

abbrev pub decreases-loop-part : goal.decreases-loop-part
decreases-loop-part l = length l.others

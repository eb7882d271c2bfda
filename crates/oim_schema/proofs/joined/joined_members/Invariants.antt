use Rattle.std.proofs.Common.{◌≡◌, length}
use Rattle.std.specs.Str.{IsUtf8}
use Rattle.std.specs.String.{string_bytes}
use Rattle.oim_schema.specs.Members.{joined, parts_of}
use Rattle.oim_schema.proofs.JoinedLaws.{with_parts}
use Rattle.oim_schema.proofs.joined.joined_members.Given as goal

abbrev pub invariant-loop-part : goal.invariant-loop-part
invariant-loop-part l = (with_parts (string_bytes l.so_far) (parts_of l.others) ≡ joined l.text) × IsUtf8 l.others

abbrev pub decreases-loop-part : goal.decreases-loop-part
decreases-loop-part l = length l.others

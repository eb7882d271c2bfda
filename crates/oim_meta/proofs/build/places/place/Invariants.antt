use Rattle.std.proofs.Common.{◌≡◌, ◌+◌, length}
use Rattle.serde_json.specs.View.{members_view}
use Rattle.oim_meta.specs.Value.{place_of}
use Rattle.oim_meta.proofs.build.places.place.Given as goal

abbrev pub invariant-loop-key : goal.invariant-loop-key
invariant-loop-key l =
    (l.place + place_of l.name (members_view l.key-iterator) ≡ place_of l.name (members_view l.members.entries))
    × (l.place + length l.key-iterator ≡ length l.members.entries)

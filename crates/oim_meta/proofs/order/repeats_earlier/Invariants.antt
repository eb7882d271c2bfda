use Rattle.std.proofs.Common.{◌≡◌, []}
use Rattle.serde_json.specs.View.{members_view}
use Rattle.oim_meta.specs.state.Order.{repeats_seen}
use Rattle.oim_meta.proofs.order.repeats_earlier.Given as goal

-- The rest, with the texts that were seen, gives the answer of the whole.
abbrev pub invariant-loop-value : goal.invariant-loop-value
invariant-loop-value l = repeats_seen l.seen (members_view l.value-iterator) ≡ repeats_seen [] (members_view l.members.entries)

use Rattle.std.specs.Prelude.{◌≡◌, ◌≤◌, None, replicate, vec_capacity, vec_len}
use Rattle.oim_convert.proofs.returning.return_room.Given as goal

abbrev pub invariant-loop-made : goal.invariant-loop-made
invariant-loop-made g l = record {
  made : l.closed_feeds.items ≡ replicate l._made None;
  count : vec_len l.closed_feeds ≡ l._made;
  room : l.tables ≤ vec_capacity l.closed_feeds;
}

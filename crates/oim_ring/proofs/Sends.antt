-- The types of this crate that may cross threads, for searches in dependent crates.
use denote.Param.Send.{IsSend}
use Rattle.oim_ring.proofs.drain.Drain.TheSendSync as drain
use Rattle.oim_ring.proofs.drain.Drained.TheSendSync as drained
use Rattle.oim_ring.proofs.feed.Closed.TheSendSync as closed
use Rattle.oim_ring.proofs.feed.Feed.TheSendSync as feed
use Rattle.oim_ring.proofs.item.Item.TheSendSync as item
use Rattle.oim_ring.specs.contracts.drain.Drain as Drain
use Rattle.oim_ring.specs.contracts.drain.Drained as Drained
use Rattle.oim_ring.specs.contracts.feed.Closed as Closed
use Rattle.oim_ring.specs.contracts.feed.Feed as Feed
use Rattle.oim_ring.specs.contracts.item.Item as Item

pub item_send : IsSend Item.the_row
item_send = item.the_send

pub feed_send : IsSend Feed.the_row
feed_send = feed.the_send

pub closed_send : IsSend Closed.the_row
closed_send = closed.the_send

pub drain_send : IsSend Drain.the_row
drain_send = drain.the_send

pub drained_send : IsSend Drained.the_row
drained_send = drained.the_send

-- The types of a ring's two ends, for `search`.
pub ruleset ends = (item_send, feed_send, closed_send, drain_send, drained_send)

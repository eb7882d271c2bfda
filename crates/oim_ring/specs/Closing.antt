-- What closing a feed does.
use Rattle.std.specs.Prelude.{◌≡◌, ◌<◌, [], ◌∷◌, ◌++◌, true, length, Result, MatchResult}
use Rattle.oim_ring.specs.Ends.{FeedView, ClosedView}
use Rattle.oim_ring.specs.Items.{blocks_only}
use Rattle.oim_ring.specs.declared.item.Ending.{Ending}
use Rattle.oim_ring.specs.declared.item.Item.TheVariants as items
use Rattle.oim_ring.specs.declared.feed.CloseFault.{CloseFault}
use Rattle.oim_ring.specs.declared.feed.CloseFault.TheVariants.{Full, Lost}

-- Full gives the feed and the ending back unchanged, and only if the count of items sent is at
-- least the ring's size. Lost has no condition.
abbrev pub RefusesClose : FeedView → Ending → CloseFault → Type 0
RefusesClose feed ending (Full back again) = (back ≡ feed) × (again ≡ ending) × ¬ (length feed.sent < feed.size)
RefusesClose feed ending Lost = Unit {0}

-- Closing returns a token of all that was sent, whose only ending is its last item, or it is
-- refused.
abbrev pub Closes : FeedView → Ending → Result ClosedView CloseFault → Type 0
Closes feed ending result =
    MatchResult result
    (λ closed. (closed.ring ≡ feed.ring) × (closed.sent ≡ feed.sent ++ items.Ending ending ∷ []) × (blocks_only feed.sent ≡ true))
    (RefusesClose feed ending)

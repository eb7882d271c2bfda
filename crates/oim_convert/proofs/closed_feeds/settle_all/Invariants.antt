use Rattle.std.proofs.Common.{◌≡◌, ℕ, ◌+◌, ◌≤◌, ◌++◌, length, vec_len}
use Rattle.std.specs.Prelude.{None, map, slice_index_or, vec_capacity}
use Rattle.std.specs.Vec.Iter.{into_iter_items, into_iter_len}
use Rattle.oim_convert.specs.Tasks.{Each}
use Rattle.oim_convert.specs.state.Tasks.{EachClosedFeed, IsEnded, IsTable}
use Rattle.oim_convert.proofs.closed_feeds.settle_all.Given as goal

abbrev pub invariant-loop-drain : goal.invariant-loop-drain
invariant-loop-drain g l =
    (vec_len l.settled + into_iter_len l.drain-iterator ≤ vec_capacity l.settled)
    × (length l.closed_feeds ≡ vec_len l.settled + into_iter_len l.drain-iterator)
    × (map (λ d. d.taken) l.fn.drains.items ≡ l.settled.items ++ map (λ d. d.taken) (into_iter_items l.drain-iterator))
    × Each (IsEnded l.terms.claims.now.items) (length l.settled.items) (into_iter_items l.drain-iterator)
    × EachClosedFeed g.R.Read.remaining l.terms.report.now l.terms.limits.rows l.terms.served l.terms.claims.now.items l.closed_feeds
    × Each (IsTable g.R.Read.remaining l.terms.report.now l.terms.limits.rows l.terms.served l.terms.claims.now.items) 0 l.settled.items
    × ((t : ℕ) → length l.settled.items ≤ t → slice_index_or l.closed_feeds t None ≡ slice_index_or l.fn.closed_feeds t None)

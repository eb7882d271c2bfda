use Rattle.std.proofs.Common.{◌≡◌, ℕ, ◌+◌, ◌<◌, All, sum_by, count_by, vec_len}
use Rattle.oim_crew.specs.Numbers.{times}
use Rattle.oim_crew.proofs.claims.Claims.close.Given as goal

-- The seats gathered so far, together with the others, have drawn and found what all seats have.
abbrev pub invariant-loop-seat : goal.invariant-loop-seat
invariant-loop-seat g l = record {
  mine : All (λ seat. seat.claims ≡ l.fn.self) l.seats.items;
  place : l.whole.table_id ≡ l.table.shared.table_id;
  some : 0 < l.whole.me.0.share;
  shares : l.whole.me.0.share + vec_len l.seats ≡ l.fn.self.workers;
  finished : l.whole.me.0.finished + count_by (λ seat. seat.finished) l.seats.items ≡ count_by (λ seat. seat.finished) l.fn.seats.items;
  numbers : (k : ℕ) → times k l.whole.me.0.drawn + sum_by (λ seat. times k seat.numbers) l.seats.items ≡ sum_by (λ seat. times k seat.numbers) l.fn.seats.items;
}

abbrev pub decreases-loop-seat : goal.decreases-loop-seat
decreases-loop-seat g l = vec_len l.seats

use Rattle.std.proofs.Common.{◌≡◌, ◌≤◌, ◌-◌, replicate, vec_capacity}
use Rattle.oim_crew.specs.Claims.{fresh}
use Rattle.oim_crew.specs.state.Views.{opening_view, claiming}
use Rattle.oim_crew.proofs.seats.deal.Given as goal

abbrev pub invariant-loop-made : goal.invariant-loop-made
invariant-loop-made g l = record {
  made : l.seats.items ≡ replicate l._made (fresh (claiming l.steps.table_id l.steps.key.items.value.items l.workers));
  room : l.workers ≤ vec_capacity l.seats;
  place : l.token.table_id ≡ l.steps.table_id;
  view : l.token.me.0 ≡ record (opening_view l.steps.key.items.value.items l.workers) { share = l.workers - l._made };
}

use Rattle.std.proofs.Common.{◌≡◌, ◌+◌, length}
use Rattle.oim_row.specs.state.Kept.{AddsPlaces}
use Rattle.oim_row.proofs.row_reference.add_places.Given as goal

abbrev pub invariant-loop-i : goal.invariant-loop-i
invariant-loop-i l = record {
  more : AddsPlaces l.fn.answers.items l.answers.items;
  count : length l.answers.items ≡ length l.fn.answers.items + l._i;
}

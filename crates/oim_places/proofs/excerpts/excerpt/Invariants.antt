use Rattle.std.proofs.Common.{◌≡◌, ◌≤◌, flat_map, length, string_bytes}
use Rattle.oim_places.specs.Shown.{shown_char}
use Rattle.oim_places.proofs.excerpts.excerpt.Given as goal

abbrev pub invariant-loop-c : goal.invariant-loop-c
invariant-loop-c l = record {
  text : string_bytes l.out ≡ flat_map shown_char l.yielded;
  count : l.count ≡ length l.yielded;
  most : l.count ≤ 80;
}

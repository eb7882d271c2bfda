use Rattle.std.proofs.Common.{◌≡◌, drop}
use Rattle.oim_names.specs.Lookup.{value_at}
use Rattle.oim_names.proofs.text.find.Given as goal

abbrev pub invariant-loop-key : goal.invariant-loop-key
invariant-loop-key g l = value_at l.name (drop l.key-index l.entries) ≡ value_at l.name l.entries

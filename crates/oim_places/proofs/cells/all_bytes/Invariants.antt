use Rattle.std.proofs.Common.{◌≡◌, ◌++◌, drop, flat_map, string_bytes}
use Rattle.oim_places.specs.Cells.{byte_shown}
use Rattle.oim_places.proofs.cells.all_bytes.Given as goal

abbrev pub invariant-loop-byte : goal.invariant-loop-byte
invariant-loop-byte l = string_bytes l.out ++ flat_map byte_shown (drop l.byte-index l.field) ≡ flat_map byte_shown l.field

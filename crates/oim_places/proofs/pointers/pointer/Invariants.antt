use Rattle.std.proofs.Common.{◌≡◌, ◌++◌, drop, string_bytes}
use Rattle.oim_places.specs.Pointers.{pointer_of}
use Rattle.oim_places.proofs.pointers.pointer.Given as goal

abbrev pub invariant-loop-key : goal.invariant-loop-key
invariant-loop-key l = string_bytes l.out ++ pointer_of (drop l.key-index l.keys) ≡ pointer_of l.keys

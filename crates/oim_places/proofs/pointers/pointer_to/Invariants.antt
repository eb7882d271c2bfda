use Rattle.std.proofs.Common.{◌≡◌, ◌++◌, drop, map, string_bytes}
use Rattle.oim_places.specs.Pointers.{pointer_of}
use Rattle.oim_places.proofs.pointers.pointer_to.Given as goal

abbrev pub invariant-loop-key : goal.invariant-loop-key
invariant-loop-key l = string_bytes l.out ++ pointer_of (map (λ k. k.now) (drop l.key-index l.keys)) ≡ pointer_of (map (λ k. k.now) l.keys)

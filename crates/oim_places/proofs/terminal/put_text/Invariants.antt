use Rattle.std.proofs.Common.{◌≡◌, ◌++◌, flat_map, string_bytes}
use Rattle.oim_places.specs.state.Pointers.{char_of}
use Rattle.oim_places.proofs.terminal.put_text.Given as goal

abbrev pub invariant-loop-c : goal.invariant-loop-c
invariant-loop-c l = string_bytes l.out ≡ string_bytes l.fn.out ++ flat_map (char_of l.is_key) l.yielded

use Rattle.std.proofs.Common.{◌≡◌, ◌++◌, map, take}
use Rattle.oim_json.specs.JsonText.{joined, namespace_text}
use Rattle.oim_json.proofs.write.push_bindings.Given as goal

abbrev pub invariant-loop-i : goal.invariant-loop-i
invariant-loop-i l = l.out.items ≡ l.fn.out.items ++ joined (map namespace_text (take l.i l.names))

use Rattle.std.proofs.Common.{◌≡◌, ◌++◌, map, take}
use Rattle.oim_json.specs.JsonText.{joined}
use Rattle.oim_json.proofs.write.push_joined.Given as goal

abbrev pub invariant-loop-i : goal.invariant-loop-i
invariant-loop-i g l = l.out.items ≡ l.fn.out.items ++ joined (map g.T.JsonText.text (take l.i l.items))

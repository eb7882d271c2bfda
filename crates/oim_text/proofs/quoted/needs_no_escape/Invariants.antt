use Rattle.std.proofs.Common.{◌≡◌, take}
use Rattle.std.specs.List.{list_all}
use Rattle.oim_json.specs.state.Writing.{is_unescaped}
use Rattle.oim_text.proofs.quoted.needs_no_escape.Given as goal

abbrev pub invariant-loop-i : goal.invariant-loop-i
invariant-loop-i l = l.all ≡ list_all is_unescaped (take l.i l.bytes)

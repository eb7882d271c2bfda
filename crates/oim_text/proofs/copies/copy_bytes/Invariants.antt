use Rattle.std.proofs.Common.{◌+◌, ◌*◌, ◌≤◌, take}
use Rattle.std.specs.List.{flat_map}
use Rattle.oim_json.specs.JsonText.{escaped_byte}
use Rattle.oim_text.specs.Places.{Placed}
use Rattle.oim_text.proofs.copies.copy_bytes.Given as goal

abbrev pub invariant-loop-i : goal.invariant-loop-i
invariant-loop-i l = record {
  within : l.at ≤ l.from + 6 * l.i;
  bytes : Placed l.fn.memory l.memory l.from (flat_map escaped_byte (take l.i l.text)) l.at;
}

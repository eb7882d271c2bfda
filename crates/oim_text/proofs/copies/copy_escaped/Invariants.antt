use Rattle.std.proofs.Common.{◌+◌, ◌*◌, ◌-◌, ◌≤◌, take}
use Rattle.std.specs.List.{flat_map}
use Rattle.oim_json.specs.JsonText.{escaped_byte}
use Rattle.oim_text.specs.Places.{Placed}
use Rattle.oim_text.proofs.copies.copy_escaped.Given as goal

abbrev pub invariant-loop-done : goal.invariant-loop-done
invariant-loop-done l = record {
  read : l.done ≤ l.len;
  within : l.at ≤ l.from + 6 * l.done;
  bytes : Placed l.fn.memory l.memory l.from (flat_map escaped_byte (take l.done l.text)) l.at;
}

abbrev pub decreases-loop-done : goal.decreases-loop-done
decreases-loop-done l = l.len - l.done

use Rattle.std.proofs.Common.{◌≡◌, ◌+◌, ◌*◌, ◌-◌, ◌≤◌, ◌++◌, take, drop}
use Rattle.std.specs.List.{flat_map}
use Rattle.oim_json.specs.JsonText.{escaped_byte}
use Rattle.oim_text.specs.Places.{Placed}
use Rattle.oim_text.proofs.EscapeMarks.{marks_behind}
use Rattle.oim_text.proofs.copies.copy_block.Given as goal

abbrev pub invariant-loop-done : goal.invariant-loop-done
invariant-loop-done l = record {
  read : l.done ≤ l.len;
  within : l.at ≤ l.from + 6 * l.done;
  marks : l.marks ≡ marks_behind l.text l.done;
  bytes : Placed l.fn.memory l.memory l.from (flat_map escaped_byte (take l.done l.text) ++ take 32 (drop l.done l.text)) (l.at + 32);
}

abbrev pub decreases-loop-done : goal.decreases-loop-done
decreases-loop-done l = l.len - l.done

use Rattle.std.proofs.Common.{◌≡◌, ◌<◌, ◌≤◌, ◌+◌, ◌-◌, ◌*◌, ◌++◌, ℕ, true, List, drop, get_or, length}
use Rattle.std.specs.List.{flat_map}
use Rattle.oim_fast.specs.state.FrameTexts.{AreRuns, rest_from, segment_text, segments_from}
use Rattle.oim_text.specs.Places.{Placed}
use Rattle.oim_fast.specs.state.GivenTexts.{given_by, is_sound_by}
use Rattle.oim_fast.specs.declared.frame.frame_text.TextRun.{TextRun}
use Rattle.oim_fast.proofs.frame.write.write_runs.Given as goal

abbrev pub invariant-loop-i : goal.invariant-loop-i
invariant-loop-i l = record {
  runs : AreRuns (length l.text.items) l.from (drop l.i l.runs);
  written : List ℕ;
  bytes : Placed l.fn.memory l.memory l.at written l.end;
  whole : written ++ (flat_map (segment_text (given_by l.references)) (segments_from l.text.items l.from (drop l.i l.runs)) ++ rest_from l.text.items l.from (drop l.i l.runs))
      ≡ flat_map (segment_text (given_by l.references)) (segments_from l.text.items l.start l.runs) ++ rest_from l.text.items l.start l.runs;
  few : l.end + (length l.text.items - l.from) + (length l.runs - l.i) * l.most ≤ l.at + (length l.text.items - l.start) + length l.runs * l.most;
  sound : (k : ℕ) (d : TextRun) → k < l.i → is_sound_by l.references (get_or l.runs k d).reference ≡ true;
}

-- What is written of a frame in a row.
use Rattle.std.specs.Prelude.{◌≡◌, ◌+◌, ◌-◌, ◌*◌, ◌≤◌, ◌++◌, ℕ, true, List, flat_map, length, slice_range}
use Rattle.std.specs.List.{All}
use Rattle.oim_fast.specs.state.FrameTexts.{rest_from, segment_text, segments_from}
use Rattle.oim_fast.specs.state.Pieces.{behind}
use Rattle.oim_text.specs.Places.{Placed}
use Rattle.oim_row.specs.References.{ReferenceValue}
use Rattle.oim_fast.specs.state.GivenTexts.{given_by, is_sound_by}
use Rattle.oim_fast.specs.declared.frame.frame_text.TextRun.{TextRun}

-- The text from place `from` up to a reference was written, and what the reference gives after its
-- dimension's name.
pub record WritesRun (rs : List ReferenceValue) (text : List ℕ) (from most : ℕ) (run : TextRun) (old new : List ℕ) (at end : ℕ) : Type 0 where
  pub sound : is_sound_by rs run.reference ≡ true
  pub bytes : Placed old new at (slice_range text from run.alone ++ behind (slice_range text run.alone run.named) (given_by rs run.reference)) end
  pub few : end ≤ at + (run.named - from) + most

-- The text from place `start` on was written, with what its references give, at most `most` bytes
-- each.
pub record WritesRuns (rs : List ReferenceValue) (text : List ℕ) (start most : ℕ) (runs : List TextRun) (old new : List ℕ) (at end : ℕ) : Type 0 where
  pub sound : All (λ r. is_sound_by rs r.reference ≡ true) runs
  pub bytes : Placed old new at (flat_map (segment_text (given_by rs)) (segments_from text start runs) ++ rest_from text start runs) end
  pub few : end ≤ at + (length text - start) + length runs * most

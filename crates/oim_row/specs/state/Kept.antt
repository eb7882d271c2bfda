-- What is kept for a reference: texts that it had, each with its answer.
use Rattle.std.specs.Prelude.{◌≡◌, ◌<◌, ◌++◌, ℕ, true, false, List, IfSome, length}
use Rattle.std.specs.List.{All, slice_get}
use Rattle.std.specs.String.{string_bytes}
use Rattle.oim_cells.specs.Cells.{meaning_of}
use Rattle.oim_report.specs.ReportValue.{ReportValue}
use Rattle.oim_row.specs.Answers.{IsAnswer, IsSilent}
use Rattle.oim_row.specs.declared.cached_answer.CachedAnswer.{CachedAnswer}
use Rattle.oim_row.specs.declared.purpose.Purpose.{Purpose}

-- The answer is that of the text that is cached with it, if one is.
abbrev pub IsCached : ReportValue → Purpose → CachedAnswer → Type 0
IsCached r p k = k.is_kept ≡ true → IsAnswer r p (meaning_of (string_bytes k.text)) k.answer

-- What is kept for a reference: each text with its answer, and at an index the answer to the
-- current text.
pub record IsKept (r : ReportValue) (p : Purpose) (text : List ℕ) (current : ℕ) (answers : List CachedAnswer) : Type 0 where
  pub within : current < length answers
  pub cached : All (IsCached r p) answers
  pub at_hand : IfSome (slice_get answers current) (λ k. IsAnswer r p (meaning_of text) k.answer)

-- Nothing is cached, and the answer asserts nothing.
pub record IsEmptyPlace (k : CachedAnswer) : Type 0 where
  pub kept : k.is_kept ≡ false
  pub answer : IsSilent k.answer

-- Empty places were added.
pub record AddsPlaces (old new : List CachedAnswer) : Type 0 where
  pub more : List CachedAnswer
  pub is : new ≡ old ++ more
  pub empty : All IsEmptyPlace more

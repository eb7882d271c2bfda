-- The text of a column's facts that is the same in each row, with places for what references give.
use Rattle.std.specs.Prelude.{◌≡◌, ◌+◌, ◌≤◌, ◌++◌, ℕ, Bool, true, false, ◌||◌, List, [], ◌∷◌, codes, drop, flat_map, length, slice_range, if◌then◌else◌}
use Rattle.oim_report.specs.declared.kind.Kind.{Kind}
use Rattle.oim_resolve.specs.Facts.{is_dropped}
use Rattle.oim_fast.specs.state.Pieces.{behind}
use Rattle.oim_fast.specs.state.ValueForms.{form_of}
use Rattle.oim_fast.specs.declared.frame.frame_decimals.FrameDecimals.{FrameDecimals}
use Rattle.oim_fast.specs.declared.frame.frame_text.TextRun.{TextRun}
use Rattle.oim_fast.specs.declared.frame.part.FramePart.{FramePart}
use Rattle.oim_fast.specs.declared.frame.part.PartValue.{PartValue}
use Rattle.oim_fast.specs.declared.frame.part.PartValue.TheVariants as part
use Rattle.oim_fast.specs.declared.frame.value_form.ValueForm.{ValueForm}

-- The text before a reference, the name of its dimension, and the reference's place.
pub record Segment : Type 0 where
  pub alone : List ℕ
  pub name : List ℕ
  pub reference : ℕ

-- The text of a fact up to its decimals, the settled decimals, and its dimensions.
pub record FrameValue : Type 0 where
  pub kind : Kind
  pub lead : List ℕ
  pub settled : List ℕ
  pub decimals : FrameDecimals
  pub segments : List Segment
  pub rest : List ℕ

-- The text between decimals and dimensions.
abbrev pub dimensions_start : List ℕ
dimensions_start = codes "\"dimensions\":{"

-- The text before a reference's dimension, and then that dimension, if `gives` is what the
-- references give.
abbrev pub segment_text : (ℕ → List ℕ) → Segment → List ℕ
segment_text gives s = s.alone ++ behind s.name (gives s.reference)

-- The text of all dimensions, with a comma after each.
abbrev pub frame_dimensions : (ℕ → List ℕ) → FrameValue → List ℕ
frame_dimensions gives t = flat_map (segment_text gives) t.segments ++ t.rest

-- The segments that begin at a place of a text, and the text after them.
abbrev pub segments_from : List ℕ → ℕ → List TextRun → List Segment
segments_from text from [] = []
segments_from text from (r ∷ rs) = record { alone = slice_range text from r.alone; name = slice_range text r.alone r.named; reference = r.reference } ∷ segments_from text r.named rs

abbrev pub rest_from : List ℕ → ℕ → List TextRun → List ℕ
rest_from text from [] = drop from text
rest_from text from (r ∷ rs) = rest_from text r.named rs

-- The runs follow one another within a text.
abbrev pub AreRuns : ℕ → ℕ → List TextRun → Type 0
AreRuns long from [] = from ≤ long
AreRuns long from (r ∷ rs) = (from ≤ r.alone) × (r.alone ≤ r.named) × AreRuns long r.named rs

-- How a frame's text is laid out.
pub record IsLaidOut (text : List ℕ) (lead opening body : ℕ) (runs : List TextRun) : Type 0 where
  pub settled : lead ≤ opening
  pub starts : opening + 14 ≡ body
  pub start : slice_range text opening body ≡ dimensions_start
  pub dimensions : AreRuns (length text) body runs

-- How a frame's text is laid out, and how the cells of its kind are read.
pub record IsFilled (k : Kind) (by : ValueForm) (text : List ℕ) (lead opening body : ℕ) (runs : List TextRun) : Type 0 where
  pub form : by ≡ form_of k
  pub laid : IsLaidOut text lead opening body runs

-- A frame with one more dimension, unless its facts do not have it.
abbrev pub with_segment : FrameValue → List ℕ → ℕ → FrameValue
with_segment t name i = record t { segments = t.segments ++ record { alone = t.rest; name = name; reference = i } ∷ []; rest = [] }

abbrev pub with_value : FrameValue → List ℕ → PartValue → FrameValue
with_value t text part.Nothing = t
with_value t text part.Text = record t { rest = t.rest ++ text }
with_value t text (part.Reference i) = with_segment t text i
with_value t text part.Unknown = t

abbrev pub with_part : FrameValue → FramePart → FrameValue
with_part t p = if is_dropped t.kind p.role then t else with_value t p.text.items p.value

-- A dimension that the frame's facts have is known.
abbrev pub is_known : PartValue → Bool
is_known part.Nothing = true
is_known part.Text = true
is_known (part.Reference i) = true
is_known part.Unknown = false

abbrev pub is_ready : FrameValue → FramePart → Bool
is_ready t p = is_dropped t.kind p.role || is_known p.value

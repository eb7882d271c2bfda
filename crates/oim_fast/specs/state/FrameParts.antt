-- What is prepared of a dimension that a level writes, and of decimals.
use Rattle.std.specs.Prelude.{⊤, ◌≡◌, ℕ, true, List, [], Some, None, IfSome, is_ok}
use Rattle.std.specs.List.{slice_get}
use Rattle.std.specs.Option.{option_and_then}
use Rattle.oim_json.specs.JsonText.{decimals_text}
use Rattle.oim_report.specs.declared.data.Written.{Written}
use Rattle.oim_report.specs.declared.data.WrittenDecimals.{WrittenDecimals}
use Rattle.oim_resolve.specs.Facts.{places, role_of, stated_accuracy, stated_read}
use Rattle.oim_resolve.specs.Values.{Stated, side_of}
use Rattle.oim_rows.specs.RowFacts.{TableHeaderValue}
use Rattle.oim_row.specs.Answers.{is_sound_for, json_for, kind_read}
use Rattle.oim_fast.specs.state.Pieces.{behind, constant_meaning, constant_stated, name_text}
use Rattle.oim_row.specs.References.{Key}
use Rattle.oim_row.specs.Sources.{SourceValue, source_decimals, source_written}
use Rattle.oim_fast.specs.declared.frame.frame_decimals.FrameDecimals.{FrameDecimals}
use Rattle.oim_fast.specs.declared.frame.frame_decimals.FrameDecimals.TheVariants as decimals
use Rattle.oim_fast.specs.declared.frame.part.FramePart.{FramePart}
use Rattle.oim_fast.specs.declared.frame.part.PartValue.{PartValue}
use Rattle.oim_fast.specs.declared.frame.part.PartValue.TheVariants as part
use Rattle.oim_row.specs.declared.answer.Answer.{Answer}
use Rattle.oim_row.specs.declared.purpose.Purpose.{Purpose}
use Rattle.oim_row.specs.declared.purpose.Purpose.TheVariants.{Dimension, Decimals}

-- The purpose for which a dimension's written value is read.
abbrev pub purpose_of : TableHeaderValue → List ℕ → Written → Purpose
purpose_of f n w = Dimension (role_of f.report n) (side_of w)

-- The dimension has the same meaning in each row, and no fault.
pub record IsConstant (f : TableHeaderValue) (n : List ℕ) (w : Written) : Type 0 where
  pub same : source_written f w ≡ None
  pub sound : is_sound_for f.report (purpose_of f n w) (constant_meaning f w) ≡ true

-- The JSON text that it gives then.
abbrev pub constant_json : TableHeaderValue → List ℕ → Written → List ℕ
constant_json f n w = json_for f.report (purpose_of f n w) (constant_meaning f w)

-- The reference at a place is to what the rows give it.
pub record IsReferred (f : TableHeaderValue) (keys : List Key) (n : List ℕ) (w : Written) (i : ℕ) : Type 0 where
  pub source : SourceValue
  pub written : source_written f w ≡ Some source
  pub there : slice_get keys i ≡ Some (record { purpose = purpose_of f n w; source = source })

-- What is prepared of a dimension: no text; its name and value; its name and a reference; or
-- nothing that is known.
abbrev pub IsPartValue : TableHeaderValue → List Key → List ℕ → Written → List ℕ → PartValue → Type 0
IsPartValue f keys n w text part.Nothing = IsConstant f n w × (constant_json f n w ≡ [])
IsPartValue f keys n w text part.Text = IsConstant f n w × (text ≡ behind (name_text n) (constant_json f n w))
IsPartValue f keys n w text (part.Reference i) = IsReferred f keys n w i × (text ≡ name_text n)
IsPartValue f keys n w text part.Unknown = ⊤

-- What an answer puts after the name of its dimension.
abbrev pub PutsAnswer : Answer → List ℕ → List ℕ → PartValue → Type 0
PutsAnswer a old new part.Nothing = (a.is_sound ≡ true) × (a.json.items ≡ [])
PutsAnswer a old new part.Text = (a.is_sound ≡ true) × (new ≡ behind old a.json.items)
PutsAnswer a old new (part.Reference i) = ⊥
PutsAnswer a old new part.Unknown = ⊤

pub record IsPart (f : TableHeaderValue) (keys : List Key) (p : FramePart) : Type 0 where
  pub role : p.role ≡ role_of f.report p.name.now
  pub value : IsPartValue f keys p.name.now p.written.now p.text.items p.value
  pub same : IfSome p.kind (λ k. source_written f p.written.now ≡ None)
  pub concept : IfSome p.kind (λ k. kind_read f.report (constant_meaning f p.written.now) ≡ Some k)

-- The text of decimals that have the same meaning in each row, or nothing that is known.
abbrev pub IsStated : Stated → List ℕ → FrameDecimals → Type 0
IsStated s text decimals.Settled = (is_ok (stated_read s) ≡ true) × (text ≡ decimals_text (option_and_then places (stated_accuracy s)))
IsStated s text (decimals.Reference i) = ⊥
IsStated s text decimals.Unknown = ⊤

-- What is prepared of written decimals: their text, a reference, or nothing that is known.
abbrev pub AreDecimals : TableHeaderValue → List Key → WrittenDecimals → List ℕ → FrameDecimals → Type 0
AreDecimals f keys w text decimals.Settled = (source_decimals f w ≡ None) × IsStated (constant_stated f w) text decimals.Settled
AreDecimals f keys w text (decimals.Reference i) =
    (text ≡ []) × (source : SourceValue) × (source_decimals f w ≡ Some source) × (slice_get keys i ≡ Some (record { purpose = Decimals; source = source }))
AreDecimals f keys w text decimals.Unknown = ⊤

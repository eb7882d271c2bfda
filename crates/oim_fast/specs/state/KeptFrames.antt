-- The kept frames of a table.
use Rattle.std.specs.Prelude.{⊤, ◌≡◌, ◌⊎◌, ℕ, true, List, Option, Some, None, IfSome, IsSomeAnd, codes}
use Rattle.std.specs.List.{All, slice_get}
use Rattle.std.specs.Option.{option_and_then}
use Rattle.oim_report.specs.declared.kind.Kind.{Kind}
use Rattle.oim_resolve.specs.Facts.{given}
use Rattle.oim_rows.specs.RowFacts.{TableHeaderValue}
use Rattle.oim_fast.specs.state.Columns.{column_choices}
use Rattle.oim_fast.specs.state.FrameTexts.{FrameValue}
use Rattle.oim_fast.specs.state.Frames.{Chooses, HasConstantKind, HasReferredKind, IsFrameText, is_known_choice, levels_chosen}
use Rattle.oim_fast.specs.state.ChosenGroups.{choices_in}
use Rattle.oim_row.specs.Answers.{kind_read}
use Rattle.oim_row.specs.References.{Key}
use Rattle.oim_row.specs.Rows.{RowValue, column_in}
use Rattle.oim_row.specs.state.Rows.{cell_in}
use Rattle.oim_fast.specs.declared.frame.fact_column.FactColumn.{FactColumn}
use Rattle.oim_fast.specs.declared.frame.frame.FrameBody.{FrameBody}
use Rattle.oim_fast.specs.declared.frame.frame.FrameBody.TheVariants as body
use Rattle.oim_fast.specs.declared.frame.frame.Frame.{Frame}
use Rattle.oim_row.specs.declared.group_cells.Choice.{Choice}
use Rattle.oim_row.specs.declared.group_cells.GroupCell.{GroupCell}

-- The body of a frame for a kind or for none: its text, or the reference that names its concept, or
-- nothing that is known.
abbrev pub IsBody : TableHeaderValue → List Key → ℕ → List Choice → Option Kind → FrameBody → Type 0
IsBody f keys c os k (body.Text t) = IsFrameText f keys c os t × ((k ≡ Some t.kind) ⊎ HasConstantKind f (levels_chosen f c os) t.kind)
IsBody f keys c os k (body.ByConcept i) = HasReferredKind f keys (levels_chosen f c os) i
IsBody f keys c os k body.Unknown = ⊤

-- The body of a frame for a column and a kind, or none, under the choices of the current row.
abbrev pub IsBodyFor : TableHeaderValue → List Key → List GroupCell → FactColumn → Option Kind → FrameBody → Type 0
IsBodyFor f keys cells c k b = IsBody f keys c.column (column_choices cells c) k b

-- A kept frame is right for each row of the table that makes its choices.
abbrev pub IsFrame : TableHeaderValue → List Key → Frame → Type 0
IsFrame f keys v = IsBody f keys v.column v.choices.items v.kind v.body

-- The frame is for this column and this kind, or none, under the choices of the current row.
pub record IsFor (cells : List GroupCell) (c : FactColumn) (k : Option Kind) (v : Frame) : Type 0 where
  pub column : v.column ≡ c.column
  pub kind : v.kind ≡ k
  pub choices : v.choices.items ≡ choices_in cells c.groups.items

-- The frame is for these, and all choices are known.
pub record IsKnownFor (cells : List GroupCell) (c : FactColumn) (k : Option Kind) (v : Frame) : Type 0 where
  pub is : IsFor cells c k v
  pub known : All (λ o. is_known_choice o ≡ true) v.choices.items

-- The frame is for the column and for the kind of its concept in a row.
pub record IsOfConcept (x : RowValue) (cells : List GroupCell) (c : FactColumn) (v : Frame) : Type 0 where
  pub kind : Kind
  pub is : IsFor cells c (Some kind) v
  pub concept : kind_read x.header.report (given (cell_in x c.column) (codes "concept")) ≡ Some kind

-- The frame at a place has property P.
abbrev pub HasFrame : List Frame → (Frame → Type 0) → ℕ → Type 0
HasFrame frames P place = IsSomeAnd (slice_get frames place) P

-- The text of a frame, if it has one.
abbrev pub text_of : FrameBody → Option FrameValue
text_of (body.Text t) = Some t
text_of (body.ByConcept i) = None
text_of body.Unknown = None

abbrev pub text_in : List Frame → ℕ → Option FrameValue
text_in frames place = option_and_then (λ (v : Frame). text_of v.body) (slice_get frames place)

-- The text of a frame is that of a column's facts in a row: it has these levels and the concept's
-- kind.
pub record IsTextFor (x : RowValue) (keys : List Key) (c : ℕ) (t : FrameValue) : Type 0 where
  pub choices : List Choice
  pub chosen : Chooses x (column_in x.header c).from choices
  pub text : IsFrameText x.header keys c choices t
  pub concept : kind_read x.header.report (given (cell_in x c) (codes "concept")) ≡ Some t.kind

-- The same for the frame at a place, if it has a text.
abbrev pub HasTextFor : RowValue → List Key → ℕ → List Frame → ℕ → Type 0
HasTextFor x keys c frames place = IfSome (text_in frames place) (IsTextFor x keys c)

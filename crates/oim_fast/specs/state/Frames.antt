-- The prepared text of a column of facts under the chosen groups.
use Rattle.std.specs.Prelude.{⊤, ◌≡◌, ℕ, Bool, true, false, List, [], ◌∷◌, ◌++◌, map, MatchOption, reverse, Option, Some, None, codes}
use Rattle.std.specs.List.{All, slice_get}
use Rattle.std.specs.Option.{option_and_then, option_map_or, option_to_list}
use Rattle.oim_cells.specs.Cells.{Meaning, meaning_of}
use Rattle.oim_cells.specs.Cells as m
use Rattle.oim_report.specs.Readers.{template_of}
use Rattle.oim_report.specs.declared.data.Level.{Level}
use Rattle.oim_report.specs.declared.data.Side.{Side}
use Rattle.oim_report.specs.declared.data.Side.TheVariants as side
use Rattle.oim_report.specs.declared.data.Written.{Written}
use Rattle.oim_report.specs.declared.data.WrittenDecimals.{WrittenDecimals}
use Rattle.oim_report.specs.declared.kind.Kind.{Kind}
use Rattle.oim_report.specs.declared.kind.Kind.TheVariants as kind
use Rattle.oim_report.specs.declared.kind.PeriodType.{PeriodType}
use Rattle.oim_report.specs.declared.kind.ValueType.{ValueType}
use Rattle.oim_report.specs.declared.kind.ValueType.TheVariants as item
use Rattle.oim_resolve.specs.Facts.{is_numeric}
use Rattle.oim_resolve.specs.Values.{side_of}
use Rattle.oim_resolve.specs.Written.{written, written_decimals}
use Rattle.oim_rows.specs.RowFacts.{TableHeaderValue, field_or_empty, source_of_column}
use Rattle.oim_fast.specs.state.Facts.{column_lead}
use Rattle.oim_fast.specs.state.FrameTexts.{FrameValue, is_ready, with_part, with_segment}
use Rattle.oim_row.specs.Groups.{Says, group_at}
use Rattle.oim_fast.specs.state.FrameParts.{AreDecimals, IsPart, IsReferred}
use Rattle.oim_fast.specs.state.Pieces.{constant_meaning}
use Rattle.oim_resolve.specs.state.ProgramLevels.{written_entries}
use Rattle.oim_row.specs.Answers.{is_sound_for, kind_read}
use Rattle.oim_row.specs.References.{Key}
use Rattle.oim_row.specs.Rows.{RowValue, column_in}
use Rattle.oim_row.specs.Sources.{SourceValue, source_written}
use Rattle.oim_fast.specs.declared.frame.frame_decimals.FrameDecimals.{FrameDecimals}
use Rattle.oim_fast.specs.declared.frame.frame_decimals.FrameDecimals.TheVariants as decimals
use Rattle.oim_fast.specs.declared.frame.part.FramePart.{FramePart}
use Rattle.oim_row.specs.declared.group_cells.Choice.{Choice}
use Rattle.oim_row.specs.declared.group_cells.Choice.TheVariants as choice
use Rattle.oim_row.specs.declared.purpose.Purpose.{Purpose}
use Rattle.oim_row.specs.declared.purpose.Purpose.TheVariants.{WantedPeriod, WantedUnit}

-- LEVELS

-- The groups that are chosen in the columns of groups.
abbrev pub groups_chosen : TableHeaderValue → List ℕ → List Choice → List Level
groups_chosen f [] os = []
groups_chosen f (g ∷ gs) [] = []
groups_chosen f (g ∷ gs) (o ∷ os) = option_to_list (group_at (column_in f g).groups o) ++ groups_chosen f gs os

-- The levels of a column with these groups, from the most general to the most specific.
abbrev pub levels_chosen : TableHeaderValue → ℕ → List Choice → List Level
levels_chosen f c os = f.report.level ∷ (template_of f.report f.table).level ∷ (reverse (groups_chosen f (column_in f c).from os) ++ (column_in f c).level ∷ [])

-- A choice is known: a group, or none.
abbrev pub is_known_choice : Choice → Bool
is_known_choice choice.Nothing = true
is_known_choice (choice.Group g) = true
is_known_choice choice.Unknown = false

abbrev pub Chooses : RowValue → List ℕ → List Choice → Type 0
Chooses x [] [] = ⊤
Chooses x [] (o ∷ os) = ⊥
Chooses x (g ∷ gs) [] = ⊥
Chooses x (g ∷ gs) (o ∷ os) =
    (is_known_choice o ≡ true) × Says (column_in x.header g) (meaning_of (field_or_empty x.fields (source_of_column x.header.columns g))) o × Chooses x gs os

-- THE TEXT

-- The name and the written value of a part.
abbrev pub entry_of : FramePart → List ℕ × Written
entry_of p = (p.name.now, p.written.now)

abbrev pub with_parts : FrameValue → List FramePart → FrameValue
with_parts t [] = t
with_parts t (p ∷ ps) = with_parts (with_part t p) ps

-- Each dimension that the frame's facts have is known.
abbrev pub are_ready : FrameValue → List FramePart → Type 0
are_ready t [] = ⊤
are_ready t (p ∷ ps) = (is_ready t p ≡ true) × are_ready (with_part t p) ps

-- A frame before its dimensions.
abbrev pub no_dimensions : Kind → List ℕ → List ℕ → FrameDecimals → FrameValue
no_dimensions k lead settled d = record { kind = k; lead = lead; settled = settled; decimals = d; segments = []; rest = [] }

-- The decimals of a frame of numbers: those that the levels write.
abbrev pub AreFrameDecimals : TableHeaderValue → List Key → Option WrittenDecimals → List ℕ → FrameDecimals → Type 0
AreFrameDecimals f keys None text d = (text ≡ []) × (d ≡ decimals.Settled)
AreFrameDecimals f keys (Some e) text d = AreDecimals f keys e text d

-- The decimals of facts of a kind: those that the levels write, if they are numbers.
pub record AreKindDecimals (f : TableHeaderValue) (keys : List Key) (ls : List Level) (k : Kind) (text : List ℕ) (d : FrameDecimals) : Type 0 where
  pub numbers : is_numeric k ≡ true → AreFrameDecimals f keys (written_decimals ls) text d
  pub others : is_numeric k ≡ false → text ≡ []

-- THE UNIT AND THE PERIOD THAT A KIND WANTS

abbrev pub unit_type : ValueType → Option ValueType
unit_type item.Monetary = Some item.Monetary
unit_type item.Shares = Some item.Shares
unit_type _ = None

-- The type of a kind's values if it wants a unit, and of its periods if it has one.
abbrev pub unit_wanted : Kind → Option ValueType
unit_wanted (kind.Concept a) = unit_type a.value
unit_wanted _ = None

abbrev pub period_wanted : Kind → Option PeriodType
period_wanted (kind.Concept a) = a.period
period_wanted _ = None

-- What a value that the levels write means if it means the same in each row, and its side.
abbrev pub constant_given : TableHeaderValue → Option Written → Meaning
constant_given f o = option_map_or (constant_meaning f) o m.Absent

abbrev pub side_written : Option Written → Side
side_written o = option_map_or side_of o side.Whole

-- A test of what the levels write for a purpose: the reference at a place, which is asked in each
-- row; or none, because it means the same in each row and has no fault.
abbrev pub IsTest : TableHeaderValue → List Key → Option Written → Purpose → Option ℕ → Type 0
IsTest f keys o p None = (option_and_then (source_written f) o ≡ None) × (is_sound_for f.report p (constant_given f o) ≡ true)
IsTest f keys o p (Some i) = (source : SourceValue) × (option_and_then (source_written f) o ≡ Some source) × (slice_get keys i ≡ Some (record { purpose = p; source = source }))

-- The tests of the unit and of the period. A kind that wants none has none.
abbrev pub IsUnitTest : TableHeaderValue → List Key → List Level → Kind → Option ℕ → Type 0
IsUnitTest f keys ls k test = MatchOption (unit_wanted k) (test ≡ None) (λ y. IsTest f keys (written ls (codes "unit")) (WantedUnit y) test)

abbrev pub IsPeriodTest : TableHeaderValue → List Key → List Level → Kind → Option ℕ → Type 0
IsPeriodTest f keys ls k test =
    MatchOption (period_wanted k) (test ≡ None) (λ p. IsTest f keys (written ls (codes "period")) (WantedPeriod p (side_written (written ls (codes "period")))) test)

-- A frame with a test, which adds no text.
abbrev pub with_test : FrameValue → Option ℕ → FrameValue
with_test t None = t
with_test t (Some i) = with_segment t [] i

-- THE WHOLE TEXT

-- The text, after `start`, of facts with these levels and a concept of the frame's kind. Behind the
-- dimensions are the tests of unit and period.
pub record IsTextOf (f : TableHeaderValue) (keys : List Key) (ls : List Level) (start : List ℕ) (t : FrameValue) : Type 0 where
  pub parts : List FramePart
  pub unit : Option ℕ
  pub period : Option ℕ
  pub entries : map entry_of parts ≡ written_entries ls
  pub are : All (IsPart f keys) parts
  pub ready : are_ready (no_dimensions t.kind t.lead t.settled t.decimals) parts
  pub text : t ≡ with_test (with_test (with_parts (no_dimensions t.kind t.lead t.settled t.decimals) parts) unit) period
  pub has_unit : IsUnitTest f keys ls t.kind unit
  pub has_period : IsPeriodTest f keys ls t.kind period
  pub lead : t.lead ≡ start
  pub decimals : AreKindDecimals f keys ls t.kind t.settled t.decimals

-- The same for a frame of this kind.
abbrev pub IsTextOfKind : TableHeaderValue → List Key → List Level → List ℕ → Kind → FrameValue → Type 0
IsTextOfKind f keys ls start k t = (t.kind ≡ k) × IsTextOf f keys ls start t

-- The text of a column under these choices.
abbrev pub IsFrameText : TableHeaderValue → List Key → ℕ → List Choice → FrameValue → Type 0
IsFrameText f keys c os t = IsTextOf f keys (levels_chosen f c os) (column_lead f c) t

-- The concept that the levels write has the same kind in each row.
pub record HasConstantKind (f : TableHeaderValue) (ls : List Level) (k : Kind) : Type 0 where
  pub concept : Written
  pub written : written ls (codes "concept") ≡ Some concept
  pub same : source_written f concept ≡ None
  pub kind : kind_read f.report (constant_meaning f concept) ≡ Some k

-- The concept that the levels write is what the reference at a place names.
pub record HasReferredKind (f : TableHeaderValue) (keys : List Key) (ls : List Level) (i : ℕ) : Type 0 where
  pub concept : Written
  pub written : written ls (codes "concept") ≡ Some concept
  pub referred : IsReferred f keys (codes "concept") concept i

-- How a frame is made in a row.
use Rattle.std.specs.Prelude.{⊤, ◌≡◌, ◌⊎◌, ℕ, List, Bool, true, Option, Some, None, map, reverse}
use Rattle.std.specs.Borrow.{Bor}
use Rattle.std.specs.List.{All}
use Rattle.oim_report.specs.declared.data.Level.{Level}
use Rattle.oim_report.specs.declared.data.Written.{Written}
use Rattle.oim_report.specs.declared.kind.Kind.{Kind}
use Rattle.oim_resolve.specs.ProgramCell.{held}
use Rattle.oim_rows.specs.RowFacts.{TableHeaderValue}
use Rattle.oim_fast.specs.state.FrameTexts.{FrameValue}
use Rattle.oim_fast.specs.state.Frames.{AreKindDecimals, HasConstantKind, HasReferredKind, IsPeriodTest, IsTest, IsUnitTest, are_ready, entry_of, no_dimensions, with_parts, with_test}
use Rattle.oim_row.specs.Groups.{IsGroupCell, IsSaid}
use Rattle.oim_fast.specs.state.FrameParts.{IsPart}
use Rattle.oim_row.specs.References.{IsFresh, IsOfReport, Key, key_of}
use Rattle.oim_row.specs.Rows.{RowValue}
use Rattle.oim_fast.specs.declared.frame.frame.FrameBody.{FrameBody}
use Rattle.oim_fast.specs.declared.frame.frame.FrameBody.TheVariants as body
use Rattle.oim_fast.specs.declared.frame.frame_maker.FrameConcept.{FrameConcept}
use Rattle.oim_fast.specs.declared.frame.frame_maker.FrameConcept.TheVariants as concept
use Rattle.oim_fast.specs.declared.frame.frame_maker.FrameMaker.{FrameMaker}
use Rattle.oim_fast.specs.declared.frame.part.FramePart.{FramePart}
use Rattle.oim_fast.specs.declared.frame.part.PartValue.TheVariants as part
use Rattle.oim_row.specs.declared.purpose.Purpose.{Purpose}

-- The levels from the most general to the most specific; they are held in the reverse order.
abbrev pub from_general : List (Bor Level) → List Level
from_general ls = reverse (held ls)

-- The keys of a maker's references.
abbrev pub keys_in : FrameMaker → List Key
keys_in m = map key_of m.references

-- A maker of frames is right for each row under a header.
pub record IsReadyMaker (f : TableHeaderValue) (m : FrameMaker) : Type 0 where
  pub references : All (IsOfReport f.report) m.references
  pub cells : All (IsGroupCell f) m.cells.list.items
  pub parts : All (IsPart f (map key_of m.references)) m.parts.list.items

-- A maker has moved to a row: its references have what the row gives, its cells of groups what the
-- row chooses.
pub record IsMaker (x : RowValue) (m : FrameMaker) : Type 0 where
  pub fresh : All (IsFresh x) m.references
  pub cells : All (IsGroupCell x.header) m.cells.list.items
  pub said : All (IsSaid x) m.cells.list.items
  pub parts : All (IsPart x.header (map key_of m.references)) m.parts.list.items

-- What the levels write for the concept, or the kind if it was given.
abbrev pub IsConcept : TableHeaderValue → List Key → List Level → Option Kind → FrameConcept → Type 0
IsConcept f keys ls k (concept.Constant c) = (k ≡ Some c) ⊎ HasConstantKind f ls c
IsConcept f keys ls k (concept.Reference i) = HasReferredKind f keys ls i
IsConcept f keys ls k concept.Unknown = ⊤

-- What a part gives for the concept.
abbrev pub SaysConcept : FramePart → FrameConcept → Type 0
SaysConcept p (concept.Constant k) = p.kind ≡ Some k
SaysConcept p (concept.Reference i) = p.value ≡ part.Reference i
SaysConcept p concept.Unknown = ⊤

-- The body of a frame with this text, or with none.
abbrev pub IsBodyOf : Option FrameValue → FrameBody → Type 0
IsBodyOf None b = b ≡ body.Unknown
IsBodyOf (Some t) b = b ≡ body.Text t

-- A frame before its dimensions.
pub record IsOpening (f : TableHeaderValue) (keys : List Key) (ls : List Level) (k : Kind) (lead : List ℕ) (t : FrameValue) : Type 0 where
  pub start : t ≡ no_dimensions k lead t.settled t.decimals
  pub decimals : AreKindDecimals f keys ls k t.settled t.decimals

-- A frame with the parts of more entries.
pub record AddsEntries (f : TableHeaderValue) (keys : List Key) (es : List (List ℕ × Written)) (old new : FrameValue) : Type 0 where
  pub parts : List FramePart
  pub entries : map entry_of parts ≡ es
  pub are : All (IsPart f keys) parts
  pub ready : are_ready old parts
  pub text : new ≡ with_parts old parts

-- The same if they were added.
abbrev pub AddsWhere : TableHeaderValue → List Key → List (List ℕ × Written) → FrameValue → FrameValue → Bool → Type 0
AddsWhere f keys es old new added = added ≡ true → AddsEntries f keys es old new

-- A frame with a test of what the levels write.
pub record AddsTest (f : TableHeaderValue) (keys : List Key) (o : Option Written) (p : Purpose) (old new : FrameValue) : Type 0 where
  pub test : Option ℕ
  pub is : IsTest f keys o p test
  pub text : new ≡ with_test old test

-- The same for the unit and for the period that a kind wants.
pub record AddsUnit (f : TableHeaderValue) (keys : List Key) (ls : List Level) (k : Kind) (old new : FrameValue) : Type 0 where
  pub test : Option ℕ
  pub is : IsUnitTest f keys ls k test
  pub text : new ≡ with_test old test

pub record AddsPeriod (f : TableHeaderValue) (keys : List Key) (ls : List Level) (k : Kind) (old new : FrameValue) : Type 0 where
  pub test : Option ℕ
  pub is : IsPeriodTest f keys ls k test
  pub text : new ≡ with_test old test

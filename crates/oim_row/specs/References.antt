-- The references of a table, and what they name in a row.
use Rattle.std.specs.Prelude.{◌≡◌, ◌++◌, ℕ, List, Some}
use Rattle.std.specs.Option.{option_map}
use Rattle.std.specs.List.{slice_get}
use Rattle.oim_cells.specs.Cells.{Meaning, meaning_of}
use Rattle.oim_report.specs.ReportValue.{ReportValue}
use Rattle.oim_row.specs.Rows.{RowValue}
use Rattle.oim_row.specs.Sources.{SourceValue, seen_source, source_text}
use Rattle.oim_row.specs.declared.purpose.Purpose.{Purpose}
use Rattle.oim_row.specs.declared.reference_target.ReferenceTarget.{ReferenceTarget}

-- The source of a reference, and its purpose.
pub record Key : Type 0 where
  pub purpose : Purpose
  pub source : SourceValue

-- A reference of a report, and the text that it has in the current row.
pub record ReferenceValue : Type 0 where
  pub report : ReportValue
  pub key : Key
  pub text : List ℕ

abbrev pub key_of : ReferenceValue → Key
key_of r = r.key

-- The key of a reference that is made for a purpose and a source.
abbrev pub key_seen : Purpose → ReferenceTarget → Key
key_seen p s = record { purpose = p; source = seen_source s }

-- The reference at an index has this key.
abbrev pub HasKey : List ReferenceValue → Key → ℕ → Type 0
HasKey rs key place = option_map key_of (slice_get rs place) ≡ Some key

abbrev pub meaning_at_hand : ReferenceValue → Meaning
meaning_at_hand r = meaning_of r.text

-- A reference is of a report.
abbrev pub IsOfReport : ReportValue → ReferenceValue → Type 0
IsOfReport report r = r.report ≡ report

-- Its text is that of a row.
pub record IsFresh (x : RowValue) (r : ReferenceValue) : Type 0 where
  pub report : r.report ≡ x.header.report
  pub text : r.text ≡ source_text x r.key.source

-- A list with more items after it.
pub record Grows {A : Type 0} (xs ys : List A) : Type 0 where
  pub more : List A
  pub is : ys ≡ xs ++ more

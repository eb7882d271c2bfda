-- What a value gives the text of a fact. (xBRL-JSON 1.0, the dimensions and decimals of a fact)
use Rattle.std.specs.Prelude.{◌≡◌, ℕ, Bool, true, false, not, List, [], ◌++◌, Option, Some, None, Result, Ok, Err, IfSome, codes, is_ok}
use Rattle.std.specs.Option.{option_and_then}
use Rattle.oim_cells.specs.Cells.{Meaning}
use Rattle.oim_json.specs.JsonText.{decimals_text, value_text}
use Rattle.oim_report.specs.ReportValue.{ReportValue}
use Rattle.oim_report.specs.declared.kind.Kind.{Kind}
use Rattle.oim_resolve.specs.Facts.{concept_read, entry_given, lacks_period, lacks_unit, places, stated_accuracy, stated_read, value_read}
use Rattle.oim_resolve.specs.Values.{Read}
use Rattle.oim_resolve.specs.declared.fact.CellFault.{CellFault}
use Rattle.oim_row.specs.declared.answer.Answer.{Answer}
use Rattle.oim_row.specs.declared.purpose.Purpose.{Purpose}
use Rattle.oim_row.specs.declared.purpose.Purpose.TheVariants.{Dimension, Decimals, WantedUnit, WantedPeriod}

-- A dimension's value and a comma, or no text if it gives nothing.
abbrev pub dimension_json : Option (Option (List ℕ)) → List ℕ
dimension_json None = []
dimension_json (Some v) = value_text v ++ codes ","

-- The decimals that a value states and a comma, or no text if it states none or that a number is
-- exact.
abbrev pub decimals_json : Meaning → List ℕ
decimals_json v = decimals_text (option_and_then places (stated_accuracy (Read v)))

-- A value has no fault for a purpose.
abbrev pub is_sound_for : ReportValue → Purpose → Meaning → Bool
is_sound_for r (Dimension o s) v = is_ok (value_read r o s v)
is_sound_for r Decimals v = is_ok (stated_read (Read v))
is_sound_for r (WantedUnit y) v = not (lacks_unit r y v)
is_sound_for r (WantedPeriod p s) v = not (lacks_period p s v)

-- What it gives then, as JSON. Whether a concept wants it gives no text.
abbrev pub json_for : ReportValue → Purpose → Meaning → List ℕ
json_for r (Dimension o s) v = dimension_json (entry_given r o s v)
json_for r Decimals v = decimals_json v
json_for r (WantedUnit y) v = []
json_for r (WantedPeriod p s) v = []

abbrev pub kind_in : Result Kind CellFault → Option Kind
kind_in (Ok k) = Some k
kind_in (Err f) = None

-- The kind of the concept that a value names, if it has no fault as one.
abbrev pub kind_read : ReportValue → Meaning → Option Kind
kind_read r v = kind_in (concept_read r v)

-- What an answer asserts about a value. An answer that is not sound asserts nothing.
pub record IsAnswer (r : ReportValue) (p : Purpose) (v : Meaning) (a : Answer) : Type 0 where
  pub sound : a.is_sound ≡ true → is_sound_for r p v ≡ true
  pub json : a.is_sound ≡ true → a.json.items ≡ json_for r p v
  pub concept : IfSome a.kind (λ k. kind_read r v ≡ Some k)

-- The answer asserts nothing about any value.
pub record IsSilent (a : Answer) : Type 0 where
  pub sound : a.is_sound ≡ false
  pub json : a.json.items ≡ []
  pub concept : a.kind ≡ None

-- What is read for a purpose, and what an answer asserts about a text in a typed dimension.
use Rattle.std.specs.Prelude.{◌≡◌, ℕ, Bool, true, false, List, ◌++◌}
use Rattle.oim_cells.specs.Cells as m
use Rattle.oim_report.specs.ReportValue.{ReportValue}
use Rattle.oim_report.specs.declared.data.Side.{Side}
use Rattle.oim_resolve.specs.declared.role.Role.{Role}
use Rattle.oim_resolve.specs.declared.role.Role.TheVariants as role
use Rattle.oim_row.specs.declared.answer.Answer.{Answer}
use Rattle.oim_row.specs.declared.purpose.Purpose.{Purpose}
use Rattle.oim_row.specs.declared.purpose.Purpose.TheVariants.{Dimension, Decimals, WantedUnit, WantedPeriod}
use Rattle.oim_row.specs.Answers.{IsAnswer}

-- What the answer asserts about a text in a typed dimension.
abbrev pub IsTypedAnswer : List ℕ → Answer → Type 0
IsTypedAnswer text a = (r : ReportValue) (s : Side) → IsAnswer r (Dimension role.Typed s) (m.Text text) a

-- A text was appended if the Bool is true.
abbrev pub AppendsWhere : List ℕ → List ℕ → List ℕ → Bool → Type 0
AppendsWhere old more new b = b ≡ true → new ≡ old ++ more

abbrev pub is_typed_role : Role → Bool
is_typed_role role.Typed = true
is_typed_role role.Concept = false
is_typed_role role.Entity = false
is_typed_role role.Period = false
is_typed_role role.Unit = false
is_typed_role role.Language = false
is_typed_role role.Explicit = false
is_typed_role (role.TypedBy y) = false

-- A text is read for a typed dimension.
abbrev pub is_typed_purpose : Purpose → Bool
is_typed_purpose (Dimension o s) = is_typed_role o
is_typed_purpose Decimals = false
is_typed_purpose (WantedUnit y) = false
is_typed_purpose (WantedPeriod p s) = false

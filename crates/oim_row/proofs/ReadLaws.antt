-- What is read without a fault gives what the definition gives.
use Rattle.std.proofs.Common.{◌≡◌, ℕ, List, ◌++◌, Option, Some, None, Ok, codes, refl}
use Rattle.oim_cells.specs.Cells.{Meaning, Text}
use Rattle.oim_json.specs.JsonText.{quoted, value_text}
use Rattle.oim_names.specs.Unit.{unit_of}
use Rattle.oim_names.specs.declared.unit_kind.UnitKind.TheVariants.{Written}
use Rattle.oim_report.specs.ReportValue.{ReportValue}
use Rattle.oim_report.specs.declared.data.Side.{Side}
use Rattle.oim_resolve.specs.Facts.{entry_given, value_faults_of, value_read}
use Rattle.oim_resolve.specs.Faults.{least, unless}
use Rattle.oim_resolve.specs.declared.fact.CellFault.{CellFault}
use Rattle.oim_resolve.specs.declared.role.Role.{Role}
use Rattle.oim_resolve.specs.declared.role.Role.TheVariants.{Explicit, Unit as AUnit}
use Rattle.oim_row.specs.Answers.{dimension_json}

by_ok : {A : Type 0} (o : Option CellFault) (x y : A) → unless o (Ok x) ≡ Ok y → y ≡ x
by_ok None x y e = cc
by_ok (Some f) x y e = absurd (cc)

-- A dimension.
pub entry_read : (r : ReportValue) (o : Role) (s : Side) (v : Meaning) (e : Option (Option (List ℕ))) → value_read r o s v ≡ Ok e → e ≡ entry_given r o s v
entry_read r o s v e is = by_ok (least (value_faults_of r o s v)) (entry_given r o s v) e is

-- A unit that is written.
pub unit_written : (r : ReportValue) (s : Side) (t : List ℕ) → unit_of r.namespaces t ≡ Some Written → quoted t ++ codes "," ≡ dimension_json (entry_given r AUnit s (Text t))
unfolding value_text
unit_written r s t e = rw e refl

-- A member.
pub member_given : (r : ReportValue) (s : Side) (t : List ℕ) → quoted t ++ codes "," ≡ dimension_json (entry_given r Explicit s (Text t))
unfolding value_text
member_given r s t = refl

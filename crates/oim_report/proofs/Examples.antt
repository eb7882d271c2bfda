-- The definitions on worked cases. The rules are xBRL-CSV 1.0, parameters, and that members are
-- neither concepts nor dimensions (XBRL Dimensions 1.0).
use Rattle.std.proofs.Common.{◌≡◌, ℕ, List, [], ◌∷◌, Some, None, codes, map, refl, true, false}
use Rattle.oim_report.specs.Parameters.{ParametersValue}
use Rattle.oim_report.specs.Readers.{column_named, no_level, parameter_of}
use Rattle.oim_report.specs.ReportValue.{ReportValue, report_with}
use Rattle.oim_report.specs.Types.{TypesValue, has_members, with_kind}
use Rattle.oim_report.specs.declared.kind.Kind.TheVariants as kind
use Rattle.oim_report.specs.declared.data.Column.{Column}
use Rattle.oim_report.specs.declared.data.ColumnKind.TheVariants as column

abbrev plain : List ℕ → Column
plain id = record { id = id; kind = column.Plain; level = no_level; groups = []; from = [] }

-- A report of one table with the columns a and b, and of parameters from its metadata and from the
-- parameters file.
abbrev report : (own given : ParametersValue) → ReportValue
report own given =
    report_with (record { base_url = None; taxonomy = [] }) [] [] no_level
    (record { id = codes "p"; columns = plain (codes "a") ∷ plain (codes "b") ∷ []; row_id_column = None; level = no_level } ∷ [])
    (record { id = codes "t"; url = codes "t.csv"; is_optional = false; template = 0; parameters = (codes "z", codes "1") ∷ [] } ∷ [])
    (own, given)

columns_by_name : map (column_named (report [] []) 0) (codes "a" ∷ codes "b" ∷ codes "c" ∷ []) ≡ Some 0 ∷ Some 1 ∷ None ∷ []
columns_by_name = refl

-- The table's value hides the metadata's, and the metadata's hides that of the parameters file.
parameters_in_order : map (parameter_of (report ((codes "y", codes "2") ∷ []) ((codes "x", codes "3") ∷ (codes "y", codes "4") ∷ (codes "z", codes "5") ∷ [])) 0)
    (codes "z" ∷ codes "y" ∷ codes "x" ∷ codes "w" ∷ []) ≡ Some (codes "1") ∷ Some (codes "2") ∷ Some (codes "3") ∷ None ∷ []
parameters_in_order = refl

-- Types with a dimension and its member have a member, types with a dimension only have none.
abbrev dimension_alone : TypesValue
dimension_alone = with_kind [] (codes "u") (codes "Region") kind.Explicit

a_dimension_is_no_member : has_members dimension_alone ≡ false
a_dimension_is_no_member = refl

a_member_is_one : has_members (with_kind (with_kind dimension_alone (codes "u") (codes "North") kind.Member) (codes "u") (codes "Name") kind.Text) ≡ true
a_member_is_one = refl

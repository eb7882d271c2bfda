-- Parameters that are not well-formed (xBRL-CSV 1.0: parameters of report and tables,
-- parameterURL).
use Rattle.std.specs.Prelude.{ℕ, List, Bool, not, ◌||◌, is_some, codes}
use Rattle.serde_json.specs.Data.{Data}
use Rattle.serde_json.specs.Find.{get, as_str}
use Rattle.oim_names.specs.Lookup.{value_at}
use Rattle.oim_names.specs.Names.{is_identifier}
use Rattle.oim_report.specs.Parameters.{ParametersValue}
use Rattle.oim_meta.specs.Members.{is_text, section, any_member, if_there, no_object_or, absent_or}
use Rattle.oim_names.specs.PlainPath.{is_plain_path}

-- A name that is not an identifier, or a value that is not a text.
abbrev pub is_bad_parameter : List ℕ → Data → Bool
is_bad_parameter name d = not (is_identifier name) || not (is_text d)

-- Parameters of a report or a table that are not texts under identifiers.
abbrev pub has_bad_parameters : Data → Bool
has_bad_parameters d = if_there (no_object_or (any_member is_bad_parameter)) (get (codes "parameters") d)

-- The parameters file gives this name too.
abbrev pub is_given : ParametersValue → List ℕ → Data → Bool
is_given given name _ = is_some (value_at name given)

-- A value that is not a text of a plain path.
abbrev pub is_no_plain_path : Data → Bool
is_no_plain_path d = absent_or (λ path. not (is_plain_path path)) (as_str d)

-- The parameters file's name is not a plain path.
unfoldable pub has_bad_parameter_url : Data → Bool
has_bad_parameter_url d = if_there is_no_plain_path (get (codes "parameterURL") d)

-- 13: bad parameters of report or table, a name in both the report and the parameters file, or a
-- bad name of that file.
unfoldable pub has_bad_parameter : ParametersValue → Data → Bool
has_bad_parameter given d =
    has_bad_parameters d || any_member (λ _ t. has_bad_parameters t) (section (codes "tables") d) || any_member (is_given given) (section (codes "parameters") d)
    || has_bad_parameter_url d

-- The faults of the parameters and the tables of a metadata with their places, in the order of the
-- walk (xBRL-CSV 1.0: parameters, tables).
use Rattle.std.specs.Prelude.{ℕ, List, [], ◌∷◌, ◌++◌, not, nat_lt, Option, codes}
use Rattle.serde_json.specs.Data.{Data}
use Rattle.serde_json.specs.Find.{get}
use Rattle.oim_names.specs.Names.{is_identifier}
use Rattle.oim_entries.specs.declared.fault.MetaFault.TheVariants.{BadIdentifier, BadTemplate, UnknownTemplate, BadParameter, TooLarge}
use Rattle.oim_meta.specs.declared.findings.Finding.{Finding}
use Rattle.oim_report.specs.declared.limits.Limits.{Limits}
use Rattle.oim_report.specs.Parameters.{ParametersValue}
use Rattle.oim_meta.specs.Members.{section, if_there}
use Rattle.oim_meta.specs.BadParameters.{is_bad_parameter, is_given, has_bad_parameter_url}
use Rattle.oim_meta.specs.Counts.{count_of}
use Rattle.oim_meta.specs.Faults.{is_no_object, is_no_flag, is_no_text, lacks_template_of, lacks_url}
use Rattle.oim_meta.specs.Findings.{found}
use Rattle.oim_meta.specs.Paths.{Path, table_path}
use Rattle.oim_meta.specs.Walk.{in_members}

-- A parameter of the part at a path.
abbrev pub in_parameter : Path → List ℕ → Data → List Finding
in_parameter here name d = found BadParameter (here ++ codes "parameters" ∷ name ∷ []) (is_bad_parameter name d)

-- The parameters of a report or a table.
unfoldable pub in_parameters : Path → Data → List Finding
in_parameters here d =
    found BadParameter (here ++ codes "parameters" ∷ []) (if_there is_no_object (get (codes "parameters") d))
    ++ in_members (in_parameter here) (section (codes "parameters") d)

-- A parameter of the report that is also in the parameters file.
abbrev pub in_given : ParametersValue → List ℕ → Data → List Finding
in_given given name d = found BadParameter (codes "parameters" ∷ name ∷ []) (is_given given name d)

-- The parameters of the report, and the name of the parameters file.
unfoldable pub in_own_parameters : ParametersValue → Data → List Finding
in_own_parameters given d =
    in_parameters [] d ++ in_members (in_given given) (section (codes "parameters") d)
    ++ found BadParameter (codes "parameterURL" ∷ []) (has_bad_parameter_url d)

-- The shape of a table.
unfoldable pub in_table_itself : List ℕ → Data → List Finding
in_table_itself name t =
    found BadIdentifier (table_path name) (not (is_identifier name))
    ++ found BadTemplate (table_path name ++ codes "url" ∷ []) (lacks_url t)
    ++ found BadTemplate (table_path name ++ codes "template" ∷ []) (if_there is_no_text (get (codes "template") t))
    ++ found BadTemplate (table_path name ++ codes "optional" ∷ []) (if_there is_no_flag (get (codes "optional") t))

-- The template that a table names, with the templates of its report.
abbrev pub in_named_template : Option Data → List ℕ → Data → List Finding
in_named_template templates name t = found UnknownTemplate (table_path name ++ codes "template" ∷ []) (lacks_template_of templates name t)

-- A table, with the templates of its report.
unfoldable pub in_table : Option Data → List ℕ → Data → List Finding
in_table templates name t =
    in_table_itself name t ++ in_named_template templates name t ++ in_parameters (table_path name) t

-- The tables of a metadata, and their count.
unfoldable pub in_tables : Limits → Data → List Finding
in_tables limits d =
    found BadTemplate (codes "tables" ∷ []) (if_there is_no_object (get (codes "tables") d))
    ++ found TooLarge (codes "tables" ∷ []) (nat_lt limits.tables (count_of (section (codes "tables") d)))
    ++ in_members (in_table (get (codes "tableTemplates") d)) (section (codes "tables") d)

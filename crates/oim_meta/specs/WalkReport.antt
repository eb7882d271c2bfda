-- The faults of a metadata with their places, in the order of the walk (xBRL-CSV 1.0: documentInfo,
-- links, metadata).
use Rattle.std.specs.Prelude.{ℕ, List, [], ◌∷◌, ◌++◌, Option, Some, None, codes}
use Rattle.serde_json.specs.Data.{Data}
use Rattle.serde_json.specs.Find.{get}
use Rattle.oim_entries.specs.declared.fault.MetaFault.TheVariants.{NotReport, BadNamespaces, BadTaxonomy, Unsupported}
use Rattle.oim_meta.specs.declared.findings.Finding.{Finding}
use Rattle.oim_report.specs.declared.limits.Limits.{Limits}
use Rattle.oim_report.specs.Parameters.{ParametersValue}
use Rattle.oim_report.specs.Types.{TypesValue}
use Rattle.oim_meta.specs.Known.{Known, known_of}
use Rattle.oim_meta.specs.Members.{section, if_there}
use Rattle.oim_meta.specs.Order.{repeats_text}
use Rattle.oim_meta.specs.Faults.{has_no_report, is_bad_prefix, is_no_empty_list, is_no_empty_object, is_no_object, is_no_text, lacks_taxonomy}
use Rattle.oim_meta.specs.Findings.{found}
use Rattle.oim_meta.specs.Paths.{document_path}
use Rattle.oim_meta.specs.Walk.{in_level, in_members, in_templates}
use Rattle.oim_meta.specs.WalkTables.{in_own_parameters, in_tables}

-- A prefix and its URI.
abbrev pub in_prefix : List ℕ → Data → List Finding
in_prefix prefix uri = found BadNamespaces (document_path ++ codes "namespaces" ∷ prefix ∷ []) (is_bad_prefix prefix uri)

-- The prefixes of the document information.
unfoldable pub in_namespaces : Data → List Finding
in_namespaces i =
    found BadNamespaces (document_path ++ codes "namespaces" ∷ []) (if_there is_no_object (get (codes "namespaces") i))
    ++ in_members in_prefix (section (codes "namespaces") i)
    ++ found BadNamespaces (document_path ++ codes "namespaces" ∷ []) (repeats_text (section (codes "namespaces") i))

-- The document information apart from its type.
unfoldable pub in_info : Data → List Finding
in_info i =
    in_namespaces i ++ found BadTaxonomy (document_path ++ codes "taxonomy" ∷ []) (lacks_taxonomy i)
    ++ found BadTaxonomy (document_path ++ codes "baseURL" ∷ []) (if_there is_no_text (get (codes "baseURL") i))
    ++ found Unsupported (document_path ++ codes "extends" ∷ []) (if_there is_no_empty_list (get (codes "extends") i))

-- The document information, if it exists.
unfoldable pub in_info_in : Option Data → List Finding
in_info_in None = []
in_info_in (Some i) = in_info i

-- The whole document: its type, its information and its links.
unfoldable pub in_document : Data → List Finding
in_document d =
    found NotReport (document_path ++ codes "documentType" ∷ []) (has_no_report d)
    ++ in_info_in (get (codes "documentInfo") d)
    ++ found Unsupported (codes "links" ∷ []) (if_there is_no_empty_object (get (codes "links") d))

-- The parts of a metadata: the report's own level, its templates, tables and parameters.
unfoldable pub in_parts : Known → Data → List Finding
in_parts known d = in_level known [] d ++ in_templates known d ++ in_tables known.limits d ++ in_own_parameters known.given d

-- A metadata.
unfoldable pub in_metadata : Limits → ParametersValue → TypesValue → Data → List Finding
in_metadata limits given types d = in_document d ++ in_parts (known_of limits given types d) d

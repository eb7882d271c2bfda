-- The faults of a metadata, given the limits, the parameters file and the types, and the first of
-- them.
use Rattle.std.specs.Prelude.{Bool, false, Option, List, [], ◌∷◌, ◌++◌, codes, find}
use Rattle.serde_json.specs.Data.{Data}
use Rattle.serde_json.specs.Find.{get}
use Rattle.oim_entries.specs.declared.fault.MetaFault.{MetaFault}
use Rattle.oim_entries.specs.declared.fault.MetaFault.TheVariants.{Syntax, NotReport, BadNamespaces, BadTaxonomy, Unsupported, BadIdentifier, BadTemplate, ColumnKinds, UnknownTemplate}
use Rattle.oim_entries.specs.declared.fault.MetaFault.TheVariants.{UnknownColumn, BadDimension, BadDecimals, BadParameter, BadTypes, TooLarge, Memory, Read}
use Rattle.oim_report.specs.declared.limits.Limits.{Limits}
use Rattle.oim_report.specs.Parameters.{ParametersValue}
use Rattle.oim_report.specs.Types.{TypesValue}
use Rattle.oim_meta.specs.Members.{if_there}
use Rattle.oim_meta.specs.Faults.{has_no_report, has_bad_namespaces, has_bad_taxonomy, is_unsupported, has_bad_identifier, has_bad_shape, has_mixed_column, has_unknown_template}
use Rattle.oim_meta.specs.UnknownColumn.{has_unknown_column}
use Rattle.oim_meta.specs.BadDimensions.{has_bad_dimensions}
use Rattle.oim_meta.specs.BadDecimals.{has_bad_decimals}
use Rattle.oim_meta.specs.BadParameters.{has_bad_parameter}
use Rattle.oim_meta.specs.Counts.{has_too_many}

-- The metadata has this fault.
abbrev pub has_fault : Limits → ParametersValue → TypesValue → Data → MetaFault → Bool
has_fault limits given types d Syntax = false
has_fault limits given types d NotReport = has_no_report d
has_fault limits given types d BadNamespaces = if_there has_bad_namespaces (get (codes "documentInfo") d)
has_fault limits given types d BadTaxonomy = if_there has_bad_taxonomy (get (codes "documentInfo") d)
has_fault limits given types d Unsupported = is_unsupported d
has_fault limits given types d BadIdentifier = has_bad_identifier d
has_fault limits given types d BadTemplate = has_bad_shape d
has_fault limits given types d ColumnKinds = has_mixed_column d
has_fault limits given types d UnknownTemplate = has_unknown_template d
has_fault limits given types d UnknownColumn = has_unknown_column d
has_fault limits given types d BadDimension = has_bad_dimensions types d
has_fault limits given types d BadDecimals = has_bad_decimals d
has_fault limits given types d BadParameter = has_bad_parameter given d
has_fault limits given types d BadTypes = false
has_fault limits given types d TooLarge = has_too_many limits d
has_fault limits given types d Memory = false
has_fault limits given types d Read = false

-- The faults up to 10, which depend only on the metadata, and the later ones, which may depend on
-- the types, the parameters file or the limits.
abbrev pub early_faults : List MetaFault
early_faults = NotReport ∷ BadNamespaces ∷ BadTaxonomy ∷ Unsupported ∷ BadIdentifier ∷ BadTemplate ∷ ColumnKinds ∷ UnknownTemplate ∷ UnknownColumn ∷ []

abbrev pub late_faults : List MetaFault
late_faults = BadDimension ∷ BadDecimals ∷ BadParameter ∷ TooLarge ∷ []

-- The faults in the order of their numbers.
abbrev pub faults_in_order : List MetaFault
faults_in_order = early_faults ++ late_faults

-- The first fault that a metadata has.
abbrev pub first_fault : Limits → ParametersValue → TypesValue → Data → Option MetaFault
first_fault limits given types d = find (has_fault limits given types d) faults_in_order

-- The input of the walk over a metadata's parts.
use Rattle.serde_json.specs.Data.{Data}
use Rattle.oim_names.specs.Bindings.{Bindings}
use Rattle.oim_report.specs.declared.limits.Limits.{Limits}
use Rattle.oim_report.specs.Parameters.{ParametersValue}
use Rattle.oim_report.specs.Types.{TypesValue}
use Rattle.oim_meta.specs.Prefixes.{prefixes_of}

-- The limits, the parameters of the parameters file, the types, and the prefixes.
pub record Known : Type 0 where
  pub limits : Limits
  pub given : ParametersValue
  pub types : TypesValue
  pub names : Bindings

-- The prefixes are those of the metadata.
abbrev pub known_of : Limits → ParametersValue → TypesValue → Data → Known
known_of limits given types d = record { limits = limits; given = given; types = types; names = prefixes_of d }

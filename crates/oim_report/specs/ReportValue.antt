-- The value of a report: its metadata with its parameters and its types.
use Rattle.std.specs.Prelude.{List, ◌++◌}
use Rattle.oim_names.specs.Bindings.{Bindings}
use Rattle.oim_report.specs.Parameters.{ParametersValue}
use Rattle.oim_report.specs.Types.{TypesValue}
use Rattle.oim_report.specs.declared.data.Info.{Info}
use Rattle.oim_report.specs.declared.data.Level.{Level}
use Rattle.oim_report.specs.declared.data.Table.{Table}
use Rattle.oim_report.specs.declared.data.Template.{Template}

pub record ReportValue : Type 0 where
  pub info : Info
  pub namespaces : Bindings
  pub types : TypesValue
  pub level : Level
  pub templates : List Template
  pub tables : List Table
  pub parameters : ParametersValue

-- The report of these parts. The parameters of the metadata are before those of the parameters
-- file.
abbrev pub report_with : Info → Bindings → TypesValue → Level → List Template → List Table → ParametersValue × ParametersValue → ReportValue
report_with info namespaces types level templates tables parameters = record {
  info = info;
  namespaces = namespaces;
  types = types;
  level = level;
  templates = templates;
  tables = tables;
  parameters = parameters.0 ++ parameters.1;
}

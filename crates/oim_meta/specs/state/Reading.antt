-- The faults of a metadata as the program finds them: those of JSON, and the late ones.
use Rattle.std.specs.Prelude.{Option, find, ◌≡◌, ℕ, List}
use Rattle.serde_json.specs.Data.{Data}
use Rattle.oim_entries.specs.declared.fault.MetaFault.{MetaFault}
use Rattle.oim_report.specs.declared.limits.Limits.{Limits}
use Rattle.oim_report.specs.Parameters.{ParametersValue}
use Rattle.oim_report.specs.Types.{TypesValue}
use Rattle.oim_meta.specs.FirstFault.{has_fault, late_faults}
use Rattle.serde_json.specs.Errors.{IsMemory}
use Rattle.serde_json.specs.declared.error.Error.{Error}
use Rattle.oim_entries.specs.declared.fault.MetaFault.TheVariants.{Syntax, Memory}
use Rattle.oim_meta.specs.Reading.{HasNoJson}

-- The first of the late faults.
abbrev pub late_fault : Limits → ParametersValue → TypesValue → Data → Option MetaFault
late_fault limits given types d = find (has_fault limits given types d) late_faults

-- Running out of memory gives Memory. Every other error of JSON gives Syntax.
abbrev pub IsFaultOf : Error → MetaFault → Type 0
IsFaultOf error fault = (IsMemory error → fault ≡ Memory) × (¬ IsMemory error → fault ≡ Syntax)

-- Memory ran out, or the bytes are not JSON.
abbrev pub IsNoJson : List ℕ → MetaFault → Type 0
IsNoJson bytes Syntax = HasNoJson bytes
IsNoJson bytes Memory = Unit {0}
IsNoJson bytes f = ⊥

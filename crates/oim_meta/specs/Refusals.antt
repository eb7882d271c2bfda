-- Why a metadata is refused, and where.
use Rattle.std.specs.Prelude.{◌≡◌, ◌<◌, ◌≤◌, ◌⊎◌, ℕ, List, [], Some, length}
use Rattle.serde_json.specs.Data.{Data}
use Rattle.oim_entries.specs.declared.fault.MetaFault.{MetaFault}
use Rattle.oim_entries.specs.declared.fault.MetaFault.TheVariants as fault
use Rattle.oim_meta.specs.declared.findings.Finding.{Finding}
use Rattle.oim_meta.specs.declared.refusal.Refusal.{Refusal}
use Rattle.oim_meta.specs.declared.refusal.Refusal.TheVariants.{Found, Memory}
use Rattle.oim_report.specs.declared.limits.Limits.{Limits}
use Rattle.oim_report.specs.Parameters.{ParametersValue}
use Rattle.oim_report.specs.Types.{TypesValue}
use Rattle.oim_meta.specs.Findings.{finding, first_of}
use Rattle.oim_meta.specs.Reading.{HasNoJson, IsJson}
use Rattle.oim_meta.specs.WalkReport.{in_metadata}

-- The fault, without its place.
abbrev pub fault_in : Refusal → MetaFault
fault_in (Found x) = x.fault
fault_in Memory = fault.Memory

-- The first finding. Memory may run out for any metadata.
abbrev pub IsFirstOf : List Finding → Refusal → Type 0
IsFirstOf xs (Found x) = first_of xs ≡ Some x
IsFirstOf xs Memory = Unit {0}

-- The first finding of the value whose JSON text the bytes are.
abbrev pub FindsFirst : Limits → ParametersValue → TypesValue → List ℕ → Finding → Type 0
FindsFirst limits given types bytes x = (d : Data) × IsJson bytes d × (first_of (in_metadata limits given types d) ≡ Some x)

-- The first finding of the bytes. If there are too many of them, or they are not JSON text, it has
-- no keys; else it is that of their value.
abbrev pub IsFinding : Limits → ParametersValue → TypesValue → List ℕ → Finding → Type 0
IsFinding limits given types bytes x =
    ((limits.metadata < length bytes) × (x ≡ finding fault.TooLarge []))
    ⊎ ((length bytes ≤ limits.metadata) × ((HasNoJson bytes × (x ≡ finding fault.Syntax [])) ⊎ FindsFirst limits given types bytes x))

-- Why the bytes are refused. Memory may run out for any bytes.
abbrev pub IsRefusal : Limits → ParametersValue → TypesValue → List ℕ → Refusal → Type 0
IsRefusal limits given types bytes (Found x) = IsFinding limits given types bytes x
IsRefusal limits given types bytes Memory = Unit {0}

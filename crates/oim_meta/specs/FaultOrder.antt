-- The first fault of a metadata is the one with the least number. The fault of too many tables or
-- columns has the greatest number of them.
use Rattle.std.specs.Prelude.{◌≡◌, ◌≤◌, Option, Some, None, true, false}
use Rattle.serde_json.specs.Data.{Data}
use Rattle.oim_entries.specs.declared.fault.MetaFault.{MetaFault}
use Rattle.oim_report.specs.declared.limits.Limits.{Limits}
use Rattle.oim_entries.specs.FaultNames.{fault_number}
use Rattle.oim_meta.specs.FirstFault.{has_fault}
use Rattle.oim_report.specs.Parameters.{ParametersValue}
use Rattle.oim_report.specs.Types.{TypesValue}

-- A metadata has this fault and none with a lower number; or it has no fault at all.
abbrev pub IsLeastFault : Limits → ParametersValue → TypesValue → Data → Option MetaFault → Type 0
IsLeastFault limits given types d None = (e : MetaFault) → has_fault limits given types d e ≡ false
IsLeastFault limits given types d (Some f) = (has_fault limits given types d f ≡ true) × ((e : MetaFault) → has_fault limits given types d e ≡ true → fault_number f ≤ fault_number e)

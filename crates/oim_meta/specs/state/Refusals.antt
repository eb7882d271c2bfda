-- The refusal for a fault that has no place.
use Rattle.std.specs.Prelude.{[]}
use Rattle.oim_entries.specs.declared.fault.MetaFault.{MetaFault}
use Rattle.oim_entries.specs.declared.fault.MetaFault.TheVariants as fault
use Rattle.oim_meta.specs.declared.refusal.Refusal.{Refusal}
use Rattle.oim_meta.specs.declared.refusal.Refusal.TheVariants.{Found, Memory}
use Rattle.oim_meta.specs.Findings.{finding}

-- A fault of the whole metadata, without keys.
abbrev pub refusal_of : MetaFault → Refusal
refusal_of fault.Memory = Memory
refusal_of f = Found (finding f [])

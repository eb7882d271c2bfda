-- The faults of a metadata with their places.
use Rattle.std.specs.Prelude.{List, [], ◌∷◌, Bool, Option, Some, None, nat_lt, fold, if◌then◌else◌}
use Rattle.oim_entries.specs.declared.fault.MetaFault.{MetaFault}
use Rattle.oim_meta.specs.declared.findings.Finding.{Finding}
use Rattle.oim_entries.specs.FaultNames.{fault_number}
use Rattle.oim_meta.specs.Paths.{Path}

-- A fault at a place.
abbrev pub finding : MetaFault → Path → Finding
finding fault place = record { fault = fault; place = place }

-- This fault at this place, if the test passes.
abbrev pub found : MetaFault → Path → Bool → List Finding
found fault place test = if test then finding fault place ∷ [] else []

-- The finding with the lower number, or the earlier of two with the same number.
abbrev pub sooner : Option Finding → Finding → Option Finding
sooner None y = Some y
sooner (Some x) y = if nat_lt (fault_number y.fault) (fault_number x.fault) then Some y else Some x

-- The finding with the least number, and the earliest of that number.
abbrev pub first_of : List Finding → Option Finding
first_of = fold sooner None

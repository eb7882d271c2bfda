-- Each fault has the places at which a walk finds it, in the order of the walk. The first finding
-- has the least fault number that has a place, at the first of its places.
use Rattle.std.specs.Prelude.{◌≡◌, ◌<◌, List, [], ◌∷◌, Bool, nat_eq, Option, Some, None, if◌then◌else◌}
use Rattle.std.specs.List.{list_any}
use Rattle.oim_entries.specs.declared.fault.MetaFault.{MetaFault}
use Rattle.oim_meta.specs.declared.findings.Finding.{Finding}
use Rattle.oim_entries.specs.FaultNames.{fault_number}
use Rattle.oim_meta.specs.Paths.{Path}

abbrev pub is_of : MetaFault → Finding → Bool
is_of f x = nat_eq (fault_number x.fault) (fault_number f)

-- The places of a fault.
abbrev pub places_of : MetaFault → List Finding → List Path
places_of f [] = []
places_of f (x ∷ xs) = if is_of f x then x.place ∷ places_of f xs else places_of f xs

-- The first finding of a walk. `None` only if no fault has a place.
abbrev pub IsFirst : List Finding → Option Finding → Type 0
IsFirst xs None = (e : MetaFault) → places_of e xs ≡ []
IsFirst xs (Some x) =
    ((later : List Path) × (places_of x.fault xs ≡ x.place ∷ later)) × ((e : MetaFault) → fault_number e < fault_number x.fault → places_of e xs ≡ [])

-- A walk finds this fault somewhere.
abbrev pub has : MetaFault → List Finding → Bool
has f = list_any (is_of f)

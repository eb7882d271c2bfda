-- The faults of a cell that breaks xBRL-CSV 1.0, each with its number and its name, and the least
-- of a set.
use Rattle.std.specs.Prelude.{ℕ, codes, List, [], ◌∷◌, Bool, true, false, Option, Some, None, Result, Err, nat_le, if◌then◌else◌}
use Rattle.std.specs.Option.{option_map_or}
use Rattle.oim_resolve.specs.declared.fact.CellFault.{CellFault}
use Rattle.oim_resolve.specs.declared.fact.CellFault.TheVariants.{UnknownSpecial, UnknownGroup, NoConcept, UnknownName, BadReference, BadValue}
use Rattle.oim_resolve.specs.declared.fact.CellFault.TheVariants.{BadPeriod, NotDuration, BadDecimals, BadNumber, Memory, BadFactValue, BadUnit, WrongPeriod, UnknownMember}

abbrev pub number_of : CellFault → ℕ
number_of UnknownSpecial = 31
number_of UnknownGroup = 32
number_of NoConcept = 33
number_of UnknownName = 34
number_of BadReference = 35
number_of BadValue = 36
number_of BadPeriod = 37
number_of NotDuration = 38
number_of BadDecimals = 39
number_of BadNumber = 40
number_of Memory = 42
number_of BadFactValue = 44
number_of BadUnit = 45
number_of WrongPeriod = 46
number_of UnknownMember = 47

abbrev pub name_of : CellFault → List ℕ
name_of UnknownSpecial = codes "UnknownSpecial"
name_of UnknownGroup = codes "UnknownGroup"
name_of NoConcept = codes "NoConcept"
name_of UnknownName = codes "UnknownName"
name_of BadReference = codes "BadReference"
name_of BadValue = codes "BadValue"
name_of BadPeriod = codes "BadPeriod"
name_of NotDuration = codes "NotDuration"
name_of BadDecimals = codes "BadDecimals"
name_of BadNumber = codes "BadNumber"
name_of Memory = codes "Memory"
name_of BadFactValue = codes "BadFactValue"
name_of BadUnit = codes "BadUnit"
name_of WrongPeriod = codes "WrongPeriod"
name_of UnknownMember = codes "UnknownMember"

-- The set that has a fault exactly if the test holds.
abbrev pub fault_if : CellFault → Bool → List CellFault
fault_if f true = f ∷ []
fault_if f false = []

-- The fault with the lesser number.
abbrev pub lesser : CellFault → CellFault → CellFault
lesser f g = if nat_le (number_of f) (number_of g) then f else g

-- The fault with the least number of a set.
abbrev pub least : List CellFault → Option CellFault
least [] = None
least (f ∷ fs) = Some (option_map_or (lesser f) (least fs) f)

-- The least of a step's faults, or what the later steps give if it has none.
abbrev pub unless : {A : Type 0} → Option CellFault → Result A CellFault → Result A CellFault
unless (Some f) r = Err f
unless None r = r

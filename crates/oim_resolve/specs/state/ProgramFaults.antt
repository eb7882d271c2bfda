-- The lesser of two faults, and of the faults of two readings.
use Rattle.std.specs.Prelude.{Option, Some, None, Result, Ok, Err}
use Rattle.std.specs.Option.{option_map_or}
use Rattle.oim_resolve.specs.declared.fact.CellFault.{CellFault}
use Rattle.oim_resolve.specs.Faults.{lesser}

-- The lesser of two optional faults.
abbrev pub least_of : Option CellFault → Option CellFault → Option CellFault
least_of None g = g
least_of (Some f) g = Some (option_map_or (lesser f) g f)

-- Two readings combined: what both give, or the lesser of their faults.
abbrev pub both : {A B C : Type 0} → (A → B → C) → Result A CellFault → Result B CellFault → Result C CellFault
both join (Ok a) (Ok b) = Ok (join a b)
both join (Ok a) (Err g) = Err g
both join (Err f) (Ok b) = Err f
both join (Err f) (Err g) = Err (lesser f g)

-- A reading, or the lesser of its fault and another fault, if there is one.
abbrev pub or_fault : {A : Type 0} → Result A CellFault → Option CellFault → Result A CellFault
or_fault r None = r
or_fault (Ok a) (Some g) = Err g
or_fault (Err f) (Some g) = Err (lesser f g)

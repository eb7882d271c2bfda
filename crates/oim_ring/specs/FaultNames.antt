-- The numbers and names of the faults of closing a feed.
use Rattle.std.specs.Prelude.{ℕ, List, codes}
use Rattle.oim_ring.specs.declared.feed.CloseFault.{CloseFault}
use Rattle.oim_ring.specs.declared.feed.CloseFault.TheVariants as fault

abbrev pub number_of : CloseFault → ℕ
number_of (fault.Full feed ending) = 65
number_of fault.Lost = 66

abbrev pub name_of : CloseFault → List ℕ
name_of (fault.Full feed ending) = codes "Full"
name_of fault.Lost = codes "Lost"

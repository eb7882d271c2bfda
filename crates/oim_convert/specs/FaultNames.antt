-- The numbers and names of the faults of a conversion.
use Rattle.std.specs.Prelude.{ℕ, List, codes}
use Rattle.oim_convert.specs.declared.fault.ConvertFault.{ConvertFault}
use Rattle.oim_convert.specs.declared.fault.ConvertFault.TheVariants as fault

abbrev pub number_of : ConvertFault → ℕ
number_of fault.BadWorkers = 50
number_of fault.BadSize = 51
number_of fault.WrongReaders = 52
number_of fault.Memory = 53
number_of fault.Lost = 54
number_of (fault.Tables faults) = 55
number_of (fault.Write w) = 56

abbrev pub name_of : ConvertFault → List ℕ
name_of fault.BadWorkers = codes "BadWorkers"
name_of fault.BadSize = codes "BadSize"
name_of fault.WrongReaders = codes "WrongReaders"
name_of fault.Memory = codes "Memory"
name_of fault.Lost = codes "Lost"
name_of (fault.Tables faults) = codes "Tables"
name_of (fault.Write w) = codes "Write"

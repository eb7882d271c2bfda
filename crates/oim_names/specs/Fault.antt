-- The number and the name of each fault of a binding. This project chose both.
use Rattle.std.specs.Prelude.{ℕ, List, codes}
use Rattle.oim_names.specs.declared.namespaces.NameFault.{NameFault}
use Rattle.oim_names.specs.declared.namespaces.NameFault.TheVariants.{BadPrefix, Repeated, Memory}

abbrev pub number_of : NameFault → ℕ
number_of BadPrefix = 60
number_of Repeated = 61
number_of Memory = 62

abbrev pub name_of : NameFault → List ℕ
name_of BadPrefix = codes "BadPrefix"
name_of Repeated = codes "Repeated"
name_of Memory = codes "Memory"

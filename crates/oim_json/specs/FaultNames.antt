-- The numbers and names of write faults.
use Rattle.std.specs.Prelude.{ℕ, List, codes}
use Rattle.oim_json.specs.declared.mark.WriteFault.{WriteFault}
use Rattle.oim_json.specs.declared.mark.WriteFault.TheVariants.{Failed, Zero}

abbrev pub number_of : WriteFault → ℕ
number_of Failed = 63
number_of Zero = 64

abbrev pub name_of : WriteFault → List ℕ
name_of Failed = codes "Failed"
name_of Zero = codes "Zero"

-- The fault of a CSV reader's error: memory ran out, or else the reader below it failed.
use Rattle.csv.specs.declared.error.ErrorKind.{ErrorKind}
use Rattle.csv.specs.declared.error.ErrorKind.TheVariants as kind
use Rattle.oim_records.specs.declared.read_fault.ReadFault.{ReadFault}
use Rattle.oim_records.specs.declared.read_fault.ReadFault.TheVariants.{Read, Memory}

abbrev pub fault_of_kind : ErrorKind → ReadFault
fault_of_kind kind.OutOfMemory = Memory
fault_of_kind kind = Read

-- The fault of a file of entries, by what its reader answers.
use Rattle.std.specs.Prelude.{ℕ, List, Option}
use Rattle.oim_entries.specs.CsvFiles.{fault_of_read}
use Rattle.oim_entries.specs.declared.entry_fault.EntryRefusal.{EntryRefusal}
use Rattle.oim_entries.specs.declared.entry_fault.EntryRefusal.TheVariants.{Bad, Unread}
use Rattle.oim_entries.specs.declared.fault.MetaFault.{MetaFault}
use Rattle.oim_files.specs.FileFaults.{of_entry, of_file}
use Rattle.oim_files.specs.declared.early_fault.FileFault.{FileFault}

-- A file of entries, by why it gives no value.
abbrev pub of_refusal : Option (List ℕ) → MetaFault → EntryRefusal → FileFault
of_refusal path bad (Bad b) = of_entry path bad b
of_refusal path bad (Unread f) = of_file path (fault_of_read f)

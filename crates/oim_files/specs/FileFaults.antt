-- A fault of a file of a report, with all that is known of its place.
use Rattle.std.specs.Prelude.{ℕ, List, Option, Some, None}
use Rattle.oim_entries.specs.BadEntries.{BadRecord}
use Rattle.oim_entries.specs.EntryFaults.{meta_fault}
use Rattle.oim_entries.specs.declared.fault.MetaFault.{MetaFault}
use Rattle.oim_meta.specs.declared.findings.Finding.{Finding}
use Rattle.oim_files.specs.Metadata.{of_whole}
use Rattle.oim_files.specs.declared.early_fault.FileFault.{FileFault}

-- A finding in the metadata.
abbrev pub of_metadata : Finding → FileFault
of_metadata x = record { finding = x; path = None; entry = None }

-- A file as a whole, or one that was not read to its end. The path is that of a parameters file.
abbrev pub of_file : Option (List ℕ) → MetaFault → FileFault
of_file path f = record { finding = of_whole f; path = path; entry = None }

-- A file of entries, by its first bad record. `bad` is the published fault of its bad records.
abbrev pub of_entry : Option (List ℕ) → MetaFault → BadRecord → FileFault
of_entry path bad b = record { finding = of_whole (meta_fault bad b.0.problem); path = path; entry = Some b }

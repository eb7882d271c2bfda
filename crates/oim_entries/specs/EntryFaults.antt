-- A fault of a file of entries with its place: the number of the bad record, and which of its cells
-- is bad. That is the first cell that is not UTF-8; if all are UTF-8, the name; if the name is good
-- and new, the first bad cell after it. A header, a record of another length and a record past the
-- limit are bad as a whole.
use Rattle.std.specs.Prelude.{ℕ, ◌+◌, [], ◌∷◌, Option, Some, None, if◌then◌else◌, length, nat_eq}
use Rattle.std.specs.Str.{is_utf8}
use Rattle.oim_records.specs.Grids.{Record}
use Rattle.oim_entries.specs.declared.entry_fault.EntryFault.{EntryFault}
use Rattle.oim_entries.specs.declared.entry_fault.EntryProblem.{EntryProblem}
use Rattle.oim_entries.specs.declared.entry_fault.EntryProblem.TheVariants.{CellCount, NotUtf8, TooMany}
use Rattle.oim_entries.specs.declared.fault.MetaFault.{MetaFault}
use Rattle.oim_entries.specs.declared.fault.MetaFault.TheVariants.{TooLarge}

-- The fault of record n as a whole. The header is record 0.
abbrev pub of_whole : ℕ → EntryProblem → EntryFault
of_whole n problem = record { problem = problem; number = n; column = None }

-- The fault of a cell of record n.
abbrev pub in_cell : ℕ → Option ℕ → EntryProblem → EntryFault
in_cell n column problem = record { problem = problem; number = n; column = column }

-- The index of the first field that is not UTF-8, if these fields begin at index i.
abbrev pub first_bytes : ℕ → Record → Option ℕ
first_bytes i [] = None
first_bytes i (f ∷ fs) = if is_utf8 f then first_bytes (i + 1) fs else Some i

-- The fault of record n, which is not a record of this many texts: another number of cells, or the
-- first cell that is not UTF-8.
abbrev pub not_texts : ℕ → ℕ → Record → EntryFault
not_texts n count r = if nat_eq (length r) count then in_cell n (first_bytes 0 r) NotUtf8 else of_whole n CellCount

-- The published fault of a problem in a file whose bad records have this one.
abbrev pub meta_fault : MetaFault → EntryProblem → MetaFault
meta_fault bad TooMany = TooLarge
meta_fault bad problem = bad

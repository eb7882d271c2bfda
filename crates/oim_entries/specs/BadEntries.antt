-- The first bad record of a CSV file (RFC 4180) of entries, and what is wrong with it.
use Rattle.std.specs.Prelude.{⊤, ◌≡◌, ℕ, ◌+◌, List, [], ◌∷◌, Option, Result, Ok, Err, if◌then◌else◌, nat_le}
use Rattle.std.specs.Option.{ok_or, option_map_or}
use Rattle.oim_entries.specs.CsvFiles.{EntryFile, fault_of_read}
use Rattle.oim_entries.specs.EntryFaults.{meta_fault, of_whole}
use Rattle.oim_records.specs.Grids.{Record}
use Rattle.oim_entries.specs.declared.entry_fault.EntryFault.{EntryFault}
use Rattle.oim_entries.specs.declared.entry_fault.EntryRefusal.{EntryRefusal}
use Rattle.oim_entries.specs.declared.entry_fault.EntryRefusal.TheVariants.{Bad, Unread}
use Rattle.oim_entries.specs.declared.entry_fault.EntryProblem.TheVariants.{BadHeader, NoHeader, TooMany}
use Rattle.oim_entries.specs.declared.fault.MetaFault.{MetaFault}

-- A bad record: its fault, and its fields.
abbrev pub BadRecord : Type 0
BadRecord = EntryFault × Record

-- The value after record n, where the header is record 0; or what is wrong with the record.
abbrev pub entry_after : {S : Type 0} → EntryFile S → ℕ → S → Record → Result S EntryFault
entry_after f n s r = ok_or (f.after s r) (f.wrong n s r)

-- The same, where a fault has the fields of its record.
abbrev pub with_fields : {S : Type 0} → Record → Result S EntryFault → Result S BadRecord
with_fields r (Ok s) = Ok s
with_fields r (Err e) = Err (e, r)

-- The value after one more record, which follows the header and n others. A record past the limit
-- is bad for that reason, whatever it has.
abbrev pub one_entry : {S : Type 0} → EntryFile S → ℕ → S → Record → Result S BadRecord
one_entry f n s r = with_fields r (if nat_le f.limit n then Err (of_whole (n + 1) TooMany) else entry_after f (n + 1) s r)

-- Continues if there is no bad record yet.
abbrev pub unless_found : {A B : Type 0} → (A → Result B BadRecord) → Result A BadRecord → Result B BadRecord
unless_found next (Err e) = Err e
unless_found next (Ok a) = next a

-- The value after these records, which follow the header and n others, or the first bad one.
unfoldable pub entries_of : {S : Type 0} → EntryFile S → ℕ → S → List Record → Result S BadRecord
entries_of f n s [] = Ok s
entries_of f n s (r ∷ rs) = unless_found (λ t. entries_of f (n + 1) t rs) (one_entry f n s r)

-- A whole file, whose header chooses how it is read.
abbrev pub file_entries : {S : Type 0} → (Record → Option (EntryFile S)) → List Record → Result S BadRecord
file_entries chosen [] = Err (of_whole 0 NoHeader, [])
file_entries chosen (r ∷ rs) = option_map_or (λ f. entries_of f 0 f.start rs) (chosen r) (Err (of_whole 0 BadHeader, r))

-- What is read of a file: its value, or its first bad record. Reading may end early.
abbrev pub GivesEntries : {S : Type 0} → Result S EntryRefusal → Result S BadRecord → Type 0
GivesEntries (Ok s) answer = answer ≡ Ok s
GivesEntries (Err (Bad b)) answer = answer ≡ Err b
GivesEntries (Err (Unread fault)) answer = ⊤

-- The published fault of a file whose bad records have this one.
abbrev pub refusal_fault : MetaFault → EntryRefusal → MetaFault
refusal_fault bad (Bad b) = meta_fault bad b.0.problem
refusal_fault bad (Unread fault) = fault_of_read fault

-- The published answer of a file whose bad records have this fault.
abbrev pub published : {S : Type 0} → MetaFault → Result S BadRecord → Result S MetaFault
published bad (Ok s) = Ok s
published bad (Err b) = Err (meta_fault bad b.0.problem)

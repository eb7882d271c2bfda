-- Worked cases of what a reader of the bad rows of a table answers, and of what it keeps.
use Rattle.std.proofs.Common.{◌≡◌, ℕ, List, [], ◌∷◌, Some, None, Ok, Err, refl, ap, arith, codes, inl, inr}
use Rattle.csv.specs.Records.{field_at}
use Rattle.csv.specs.Machine.{next_record}
use Rattle.csv.specs.Reading.{records_from, strip_bom}
use Rattle.oim_records.specs.Grids.{Record, records_left}
use Rattle.oim_report.specs.ReportValue.{ReportValue}
use Rattle.oim_rows.specs.FaultNames.{number_of}
use Rattle.oim_rows.specs.Header.{fault_at, file_fault}
use Rattle.oim_rows.specs.declared.fault.TableFault.{TableFault}
use Rattle.oim_rows.specs.declared.fault.TableKind.TheVariants as kind
use Rattle.oim_table_faults.specs.Laws.{first_in}
use Rattle.oim_table_faults.specs.Reading.{GivesBadRow, IsCurrent, KeepsEnd}
use Rattle.oim_table_faults.specs.TableFaults.{bad_rows}
use Rattle.oim_table_faults.specs.state.Rows.{EarlierRows, HasListed, IsReading, StillLeft, if_any, left_of, repeats, turns_left}

abbrev a : TableFault
a = fault_at 0 2 0 kind.Ragged

abbrev b : TableFault
b = fault_at 0 3 1 kind.BadRowId

abbrev failed : TableFault
failed = file_fault 0 kind.Read

-- `GivesBadRow`: the first bad row, with all its faults.
first_bad_row : GivesBadRow 0 ((a ∷ []) ∷ (b ∷ []) ∷ []) (Ok (Some (a ∷ []))) (Some ((b ∷ []) ∷ []))
first_bad_row = refl

fault_lost : GivesBadRow 0 ((a ∷ b ∷ []) ∷ []) (Ok (Some (a ∷ []))) (Some []) → ⊥
fault_lost h = absurd (cc h)

row_lost : GivesBadRow 0 ((a ∷ []) ∷ (b ∷ []) ∷ []) (Ok (Some (a ∷ []))) (Some []) → ⊥
row_lost h = absurd (cc h)

-- The end only if no bad row is left.
the_end : GivesBadRow 0 [] (Ok None) (Some [])
the_end = refl

early_end : GivesBadRow 0 ((a ∷ []) ∷ []) (Ok None) (Some []) → ⊥
early_end h = absurd (cc h)

-- A failure may come at any row. A fault of the table is not a failure.
failed_read : GivesBadRow 0 ((a ∷ []) ∷ []) (Err failed) None
failed_read = inl refl

fault_as_a_failure : GivesBadRow 0 ((a ∷ []) ∷ []) (Err a) None → ⊥
fault_as_a_failure (inl e) = let numbers : 26 ≡ 21 = ap (λ (f : TableFault). number_of f.kind) e in absurd (omega (arith, numbers))
fault_as_a_failure (inr e) = let numbers : 26 ≡ 42 = ap (λ (f : TableFault). number_of f.kind) e in absurd (omega (arith, numbers))

-- `KeepsEnd`: the end or a failure is answered again.
ends_kept : KeepsEnd (Ok None) (Some None) × KeepsEnd (Err failed) (Some (Some failed)) × KeepsEnd (Ok (Some (a ∷ []))) None × (KeepsEnd (Err failed) (Some None) → ⊥)
ends_kept = (refl, refl, tt, λ h. absurd (cc h))

-- `first_in`: the first fault of a list.
first_faults : (first_in [] ≡ None) × (first_in (a ∷ b ∷ []) ≡ Some a)
first_faults = (refl, refl)

-- WHAT IS KEPT. `repeats`: an identifier is in the second cell, and an earlier row has it or not. A
-- table without a column for them repeats none.
abbrev row : Record
row = codes "x" ∷ codes "a" ∷ []

repeated_or_not : (repeats 0 (Some 1) 2 (codes "b" ∷ codes "a" ∷ []) row ≡ Some (fault_at 0 2 2 kind.RepeatedRowId)) × (repeats 0 (Some 1) 2 (codes "x" ∷ []) row ≡ None)
    × (repeats 0 None 2 (codes "a" ∷ []) row ≡ None)
unfolding field_at
repeated_or_not = (refl, refl, refl)

-- `if_any`: the faults of a row that has some.
faults_of_a_row : (if_any [] ≡ None) × (if_any (a ∷ b ∷ []) ≡ Some (a ∷ b ∷ []))
faults_of_a_row = (refl, refl)

-- `turns_left`: two rows and the end after them are left to read, or nothing.
turns : (turns_left None 2 ≡ 3) × (turns_left (Some None) 2 ≡ 0)
turns = (refl, refl)

abbrev no_report : ReportValue
no_report = record { info = record { base_url = None; taxonomy = [] }; namespaces = []; types = []; level = record { dimensions = []; decimals = None }; templates = []; tables = []; parameters = [] }

-- `left_of`: the bad rows of the records that are left, here of a ragged row 5 under a header of
-- one empty cell; none after the end; and after a failure nothing is known.
abbrev reading : EarlierRows
reading = record { header = record { report = no_report; table = 0; limit = 9; columns = None ∷ [] }; ids = [] }

rows_left : (left_of None reading 5 (Some (row ∷ [])) ≡ Some ((fault_at 0 5 0 kind.Ragged ∷ []) ∷ [])) × (left_of None reading 5 None ≡ None)
    × (left_of (Some None) reading 5 (Some (row ∷ [])) ≡ Some []) × (left_of (Some (Some failed)) reading 5 (Some []) ≡ None)
unfolding bad_rows
rows_left = (refl, refl, refl, refl)

-- `IsCurrent`: the current row is that of its number; the header is row 0.
abbrev two_rows : List ℕ
two_rows = codes "h\n1\n2\n"

current_row : IsCurrent (Some two_rows) 2 (codes "2" ∷ []) × IsCurrent None 2 []
unfolding records_left records_from strip_bom next_record
current_row = (refl, tt)

another_row : IsCurrent (Some two_rows) 1 [] → ⊥
unfolding records_left records_from strip_bom next_record
another_row h = let other : Some (codes "1" ∷ []) ≡ Some [] = h in absurd (cc other)

-- `IsReading`: the rows after it are left.
rows_after : IsReading (Some two_rows) 1 (Some ((codes "2" ∷ []) ∷ []))
unfolding records_left records_from strip_bom next_record
rows_after = refl

-- `StillLeft`: after the end no bad row may be left.
left_behind_the_end : StillLeft 0 ((a ∷ []) ∷ []) (Some None) (Some []) → ⊥
left_behind_the_end h = absurd (cc h)

-- `HasListed`: the faults of the first of two bad rows are listed.
one_row_listed : HasListed ((a ∷ b ∷ []) ∷ (b ∷ []) ∷ []) (Some ((b ∷ []) ∷ [])) (a ∷ b ∷ [])
one_row_listed = ((a ∷ b ∷ []) ∷ [], (b ∷ []) ∷ [], refl, refl, refl)

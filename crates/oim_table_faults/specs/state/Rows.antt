-- The rows before a row, as the program keeps them.
use Rattle.std.specs.Prelude.{◌≡◌, ◌⊎◌, List, [], ◌∷◌, ◌++◌, ℕ, suc, ◌+◌, if◌then◌else◌, Option, Some, None, IfSome, drop, option_map, unwrap_or}
use Rattle.std.specs.List.{list_any}
use Rattle.std.specs.Str.{bytes_eq}
use Rattle.csv.specs.Records.{field_at}
use Rattle.oim_records.specs.Grids.{Field, Record, grid}
use Rattle.oim_rows.specs.Header.{fault_at}
use Rattle.oim_rows.specs.RowFacts.{TableHeaderValue}
use Rattle.oim_rows.specs.declared.fault.TableFault.{TableFault}
use Rattle.oim_rows.specs.declared.fault.TableKind.TheVariants as kind
use Rattle.oim_rows.specs.Streams.{IsOutside}
use Rattle.oim_table_faults.specs.Reading.{FaultsLeft}
use Rattle.oim_table_faults.specs.TableFaults.{bad_rows, faults_of_rows}

-- A table's header and the identifiers of the rows before a row.
pub record EarlierRows : Type 0 where
  pub header : TableHeaderValue
  pub ids : List Field

-- The same identifiers, each any number of times.
abbrev pub HaveSame : List Field → List Field → Type 0
HaveSame ids others = (id : Field) → list_any (bytes_eq id) ids ≡ list_any (bytes_eq id) others

-- The fault of row `n` if an earlier row has its identifier.
abbrev pub repeats : ℕ → Option ℕ → ℕ → List Field → Record → Option TableFault
repeats table None n ids r = None
repeats table (Some p) n ids r = if list_any (bytes_eq (unwrap_or (field_at r p) [])) ids then Some (fault_at table n (p + 1) kind.RepeatedRowId) else None

-- The bad rows among the records that are left, of which the first is row `n`. None is left after
-- the end. After a failure nothing is known.
abbrev pub left_of : Option (Option TableFault) → EarlierRows → ℕ → Option (List Record) → Option (List (List TableFault))
left_of None rows n records = option_map (bad_rows rows.header n rows.ids) records
left_of (Some None) rows n records = Some []
left_of (Some (Some e)) rows n records = None

-- The records after the row of this number are left.
abbrev pub IsReading : Option (List ℕ) → ℕ → Option (List Record) → Type 0
IsReading file number left = IfSome file (λ bytes. left ≡ Some (drop (number + 1) (grid bytes)))

-- These bad rows are still left, or none is left at the end, or there was a failure.
abbrev pub StillLeft : ℕ → List (List TableFault) → Option (Option TableFault) → Option (List (List TableFault)) → Type 0
StillLeft table rows None left = left ≡ Some rows
StillLeft table rows (Some None) left = rows ≡ []
StillLeft table rows (Some (Some e)) left = IsOutside table e

-- One record was read: that of the first of these bad rows, with its faults, or that of a row
-- without a fault; or the end was found, or there was a failure.
abbrev pub Steps : List (List TableFault) → Option (List TableFault) → FaultsLeft → Type 0
Steps rows None new = StillLeft new.table rows new.answered new.left
Steps rows (Some faults) new = (later : List (List TableFault)) × (rows ≡ faults ∷ later) × (new.left ≡ Some later)

-- The faults of a row, if it has any.
abbrev pub if_any : List TableFault → Option (List TableFault)
if_any [] = None
if_any (e ∷ es) = Some (e ∷ es)

-- How many more records may be read, if n more rows are allowed.
abbrev pub turns_left : Option (Option TableFault) → ℕ → ℕ
turns_left None n = suc n
turns_left (Some end) n = 0

-- All faults of these bad rows, or those of the first of them and then a failure.
abbrev pub GivesRest : ℕ → List (List TableFault) → List TableFault → Type 0
GivesRest table rows faults =
    (faults ≡ faults_of_rows rows)
    ⊎ ((front : List (List TableFault)) × (rest : List (List TableFault)) × (e : TableFault) × (rows ≡ front ++ rest) × IsOutside table e × (faults ≡ faults_of_rows front ++ e ∷ []))

-- The faults of the first of these bad rows were listed, and the others are left.
abbrev pub HasListed : List (List TableFault) → Option (List (List TableFault)) → List TableFault → Type 0
HasListed rows left faults = (front : List (List TableFault)) × (later : List (List TableFault)) × (left ≡ Some later) × (rows ≡ front ++ later) × (faults ≡ faults_of_rows front)

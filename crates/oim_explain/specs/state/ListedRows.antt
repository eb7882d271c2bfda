-- How the records of a table come about: those of a row's faults, and whether the rows begin with
-- the fault that the run found.
use Rattle.std.specs.Prelude.{◌≡◌, ◌⊎◌, ℕ, List, ◌∷◌, Option}
use Rattle.csv.specs.Writing.{default_writer, row_text}
use Rattle.oim_records.specs.Grids.{Record}
use Rattle.oim_rows.specs.declared.fault.TableFault.{TableFault}
use Rattle.oim_places.specs.FaultRows.{fault_fields, more_fields}
use Rattle.oim_places.specs.declared.bad_rows.LocatedFault.{LocatedFault}
use Rattle.oim_places.specs.declared.fault_cause.FaultCause.{FaultCause}
use Rattle.oim_explain.specs.ListedFaults.{ListsAll, ListsAlone}
use Rattle.oim_explain.specs.declared.fault_list.ListedFaults.{ListedFaults}

-- The text of the record that a table has more faults.
abbrev pub more_text : List ℕ → List ℕ
more_text id = row_text default_writer (more_fields id)

-- The record of a fault with what is at its place and this cause.
abbrev pub located_record : List ℕ → LocatedFault → FaultCause → Record
located_record id l c = fault_fields id l.fault l.place c

-- The faults with their places begin with this one, and so do those of these rows.
abbrev pub StartsWith : TableFault → List LocatedFault → Type 0
StartsWith f located = (first : LocatedFault) × (others : List LocatedFault) × (located ≡ first ∷ others) × (first.fault ≡ f)

abbrev pub StartsRows : TableFault → List (List TableFault) → Type 0
StartsRows f rows = (others : List TableFault) × (later : List (List TableFault)) × (rows ≡ (f ∷ others) ∷ later)

-- The rows begin with this fault and their records were written, or else only its record was.
abbrev pub ListsRows : (old new : Option (List ℕ)) → (table : ℕ) → (id : List ℕ) → TableFault → (most : ℕ) → (TableFault → FaultCause → Record) → List (List TableFault) → ListedFaults → Type 0
ListsRows old new table id f most rec rows listed = ListsAlone old new id f listed ⊎ (StartsRows f rows × ListsAll old new table id most rec rows listed)

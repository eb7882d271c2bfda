-- The file of faults: a header, and a record of thirteen fields for each fault. A field is in
-- quotes if it needs them (RFC 4180, section 2), and LF ends each record.
use Rattle.std.specs.Prelude.{◌≡◌, ℕ, List, [], ◌∷◌, ◌++◌, Option, Some, None, codes}
use Rattle.std.specs.Fmt.{decimal}
use Rattle.csv.specs.Machine.{next_record}
use Rattle.csv.specs.Reading.{default_config}
use Rattle.csv.specs.Writing.{default_writer, row_text}
use Rattle.csv.specs.declared.parser.State.TheVariants as state
use Rattle.oim_records.specs.Grids.{Field, Record}
use Rattle.oim_entries.specs.FaultNames.{fault_name, fault_number}
use Rattle.oim_entries.specs.declared.fault.MetaFault.{MetaFault}
use Rattle.oim_rows.specs.FaultNames.{name_of, number_of}
use Rattle.oim_rows.specs.declared.fault.TableFault.{TableFault}
use Rattle.oim_places.specs.declared.fault_cause.FaultCause.{FaultCause}
use Rattle.oim_places.specs.declared.fault_places.FaultPlace.{FaultPlace}

-- What the fields are.
abbrev pub fault_names : Record
fault_names =
    codes "table_id" ∷ codes "table_row" ∷ codes "table_column" ∷ codes "fault_number" ∷ codes "fault_name" ∷ codes "line" ∷ codes "header_cell" ∷ codes "row_cell" ∷ codes "place"
    ∷ codes "cause_file" ∷ codes "cause_line" ∷ codes "cause_cell" ∷ codes "cause_text" ∷ []

-- A line's number, or nothing if it is not known.
abbrev pub line_field : Option ℕ → Field
line_field None = []
line_field (Some line) = decimal line

-- A fault comes from its own place.
abbrev pub no_cause : FaultCause
no_cause = record { file = []; line = None; cell = []; text = [] }

-- The last fields of a fault of a table.
abbrev pub cause_fields : FaultCause → Record
cause_fields c = c.file ∷ line_field c.line ∷ c.cell ∷ c.text ∷ []

-- The fields of a fault of the table with this identifier: row, line and column give its place, `p`
-- what is there, and `c` where it comes from.
abbrev pub fault_fields : List ℕ → TableFault → FaultPlace → FaultCause → Record
fault_fields id f p c =
    id ∷ decimal f.row ∷ decimal f.column ∷ decimal (number_of f.kind) ∷ name_of f.kind ∷ line_field p.line ∷ p.header ∷ p.cell ∷ [] ∷ cause_fields c

-- The fields of the record that ends the list of a table which has more faults than are listed.
abbrev pub more_fields : List ℕ → Record
more_fields id = id ∷ decimal 0 ∷ decimal 0 ∷ decimal 0 ∷ codes "MoreFaults" ∷ [] ∷ [] ∷ [] ∷ [] ∷ cause_fields no_cause

-- The fields of a fault of the metadata, the types table or the parameters file. It has no table,
-- row or column: its place and what is there are texts.
abbrev pub report_fault_fields : MetaFault → List ℕ → List ℕ → Record
report_fault_fields f place found =
    [] ∷ decimal 0 ∷ decimal 0 ∷ decimal (fault_number f) ∷ fault_name f ∷ [] ∷ [] ∷ found ∷ place ∷ cause_fields no_cause

-- The text is read as a record of these fields, whatever follows it.
abbrev pub ReadsAs : List ℕ → Record → Type 0
ReadsAs text fields = (later : List ℕ) → next_record default_config state.StartRecord [] [] (text ++ later) ≡ Some (fields, state.StartRecord, later)

-- The text that is written for a record, and that is read as it.
pub record IsRecordText (fields : Record) (text : List ℕ) : Type 0 where
  pub written : text ≡ row_text default_writer fields
  pub reads : ReadsAs text fields

-- The parameters file, a CSV file (RFC 4180) of names with their values (xBRL-CSV 1.0, parameters).
use Rattle.std.specs.Prelude.{ℕ, List, [], ◌∷◌, ◌++◌, Bool, false, ◌&&◌, Option, Some, None, is_none, if◌then◌else◌, Result, codes}
use Rattle.std.specs.Option.{option_and_then, option_map_or}
use Rattle.std.specs.Str.{bytes_eq}
use Rattle.oim_names.specs.Lookup.{value_at}
use Rattle.oim_names.specs.Names.{is_identifier}
use Rattle.oim_entries.specs.BadEntries.{BadRecord, file_entries}
use Rattle.oim_entries.specs.CsvFiles.{EntryFile, file_result, two_texts}
use Rattle.oim_entries.specs.EntryFaults.{in_cell, not_texts}
use Rattle.oim_entries.specs.declared.entry_fault.EntryFault.{EntryFault}
use Rattle.oim_entries.specs.declared.entry_fault.EntryProblem.TheVariants.{BadName, RepeatedName}
use Rattle.oim_records.specs.Grids.{Field, Record}
use Rattle.oim_report.specs.Parameters.{ParametersValue}
use Rattle.oim_entries.specs.declared.fault.MetaFault.{MetaFault}
use Rattle.oim_entries.specs.declared.fault.MetaFault.TheVariants as fault

-- The header: name,value.
abbrev pub is_parameters_header : Record → Bool
is_parameters_header r = option_map_or (λ p. bytes_eq p.0 (codes "name") && bytes_eq p.1 (codes "value")) (two_texts r) false

-- A name is an identifier that no earlier record has.
abbrev pub with_parameter : ParametersValue → Field × Field → Option ParametersValue
with_parameter earlier p = if is_identifier p.0 && is_none (value_at p.0 earlier) then Some (earlier ++ p ∷ []) else None

abbrev pub parameter_after : ParametersValue → Record → Option ParametersValue
parameter_after earlier r = option_and_then (with_parameter earlier) (two_texts r)

-- What is wrong with a record, from its first cell on: cells that are not two texts, a name that is
-- not an identifier, or one that an earlier record has.
abbrev pub wrong_parameter : ℕ → ParametersValue → Record → EntryFault
wrong_parameter n earlier r =
    option_map_or (λ p. in_cell n (Some 0) (if is_identifier p.0 then RepeatedName else BadName)) (two_texts r) (not_texts n 2 r)

abbrev pub most_parameters : ℕ
most_parameters = 65536

abbrev pub parameters_file : EntryFile ParametersValue
parameters_file = record { limit = most_parameters; bad = fault.BadParameter; start = []; after = parameter_after; wrong = wrong_parameter }

abbrev pub parameters_chosen : Record → Option (EntryFile ParametersValue)
parameters_chosen header = if is_parameters_header header then Some parameters_file else None

-- The parameters of a file, or the fault of its header or of its earliest bad record.
abbrev pub parameters_result : List Record → Result ParametersValue MetaFault
parameters_result = file_result fault.BadParameter parameters_chosen

-- The parameters of a file, or its first bad record.
abbrev pub parameters_entries : List Record → Result ParametersValue BadRecord
parameters_entries = file_entries parameters_chosen

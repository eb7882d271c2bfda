-- The types table, a CSV file (RFC 4180) with a record for each concept, dimension and member: its
-- namespace, its name and its type. It is used instead of the taxonomy (XBRL 2.1, XBRL Dimensions
-- 1.0).
use Rattle.std.specs.Prelude.{ℕ, List, [], ◌&&◌, Option, Some, None, is_none, if◌then◌else◌, Result}
use Rattle.std.specs.Option.{option_and_then, option_map, option_map_or}
use Rattle.std.specs.Result.{result_err, result_ok}
use Rattle.oim_names.specs.Names.{is_ncname}
use Rattle.oim_entries.specs.BadEntries.{BadRecord, file_entries}
use Rattle.oim_entries.specs.CsvFiles.{EntryFile, file_result}
use Rattle.oim_entries.specs.EntryFaults.{in_cell, not_texts, of_whole}
use Rattle.oim_entries.specs.declared.entry_fault.EntryFault.{EntryFault}
use Rattle.oim_entries.specs.declared.entry_fault.EntryProblem.{EntryProblem}
use Rattle.oim_entries.specs.declared.entry_fault.EntryProblem.TheVariants.{BadName, RepeatedName, UnknownType}
use Rattle.oim_records.specs.Grids.{Record}
use Rattle.oim_report.specs.Types.{TypesValue, kind_in, with_kind}
use Rattle.oim_entries.specs.TypeWords.{Table, TypeTexts, field_count, kind_given, table_chosen, texts_in}
use Rattle.oim_entries.specs.declared.fault.MetaFault.{MetaFault}
use Rattle.oim_entries.specs.declared.fault.MetaFault.TheVariants as fault

-- A name is an NCName that no earlier record has in its namespace, and the cells after it give a
-- kind.
abbrev pub with_type : Table → TypesValue → TypeTexts → Option TypesValue
with_type table earlier p =
    if is_ncname p.1 && is_none (kind_in earlier p.0 p.1) then option_and_then (λ k. Some (with_kind earlier p.0 p.1 k)) (result_ok (kind_given table p))
    else None

abbrev pub type_after : Table → TypesValue → Record → Option TypesValue
type_after table earlier r = option_and_then (with_type table earlier) (texts_in table r)

-- What is wrong with a record: another number of cells, or cells that are not texts; a name that is
-- not an NCName or that an earlier record has in its namespace; or else the first bad cell after
-- the name.
abbrev pub wrong_cells : ℕ → Option (ℕ × EntryProblem) → EntryFault
wrong_cells n cell = option_map_or (λ e. in_cell n (Some e.0) e.1) cell (of_whole n UnknownType)

abbrev pub wrong_texts : Table → ℕ → TypesValue → TypeTexts → EntryFault
wrong_texts table n earlier p =
    if is_ncname p.1 then (if is_none (kind_in earlier p.0 p.1) then wrong_cells n (result_err (kind_given table p)) else in_cell n (Some 1) RepeatedName)
    else in_cell n (Some 1) BadName

abbrev pub wrong_type : Table → ℕ → TypesValue → Record → EntryFault
wrong_type table n earlier r = option_map_or (wrong_texts table n earlier) (texts_in table r) (not_texts n (field_count table) r)

abbrev pub most_types : ℕ
most_types = 1048576

-- How a file is read as a table that a header chooses.
abbrev pub types_file : Table → EntryFile TypesValue
types_file table = record { limit = most_types; bad = fault.BadTypes; start = []; after = type_after table; wrong = wrong_type table }

abbrev pub types_chosen : Record → Option (EntryFile TypesValue)
types_chosen header = option_map types_file (table_chosen header)

-- The types of a file, or the fault of its header or of its earliest bad record.
abbrev pub types_result : List Record → Result TypesValue MetaFault
types_result = file_result fault.BadTypes types_chosen

-- The types of a file, or its first bad record.
abbrev pub types_entries : List Record → Result TypesValue BadRecord
types_entries = file_entries types_chosen

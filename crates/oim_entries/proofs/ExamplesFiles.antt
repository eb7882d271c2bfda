-- Parameters files, types tables and the bytes of a metadata on worked cases, at their limits. The
-- results are from xBRL-CSV 1.0, RFC 4180 and this project's own formats.
use Rattle.std.proofs.Common.{◌≡◌, ℕ, List, [], ◌∷◌, Option, Some, None, Ok, Err, refl, codes, map}
use Rattle.std.specs.Result.{result_err}
use Rattle.std.specs.Str.{chars, is_utf8}
use lib.Utf8.{encode}
use Rattle.oim_cells.specs.declared.cells.NumberKind.TheVariants.{Integer, Decimal, Double}
use Rattle.oim_names.specs.Names.{is_name_start, is_name_char, is_plain_char, is_ncname, is_identifier}
use Rattle.csv.specs.Machine.{next_record}
use Rattle.csv.specs.Reading.{records_from, strip_bom}
use Rattle.csv.specs.Records.{field_at}
use Rattle.csv.specs.declared.error.ErrorKind.TheVariants as kind
use Rattle.oim_entries.specs.BadEntries.{BadRecord, entries_of, file_entries, refusal_fault}
use Rattle.oim_entries.specs.EntryFaults.{in_cell, meta_fault, of_whole}
use Rattle.oim_entries.specs.declared.entry_fault.EntryProblem.{EntryProblem}
use Rattle.oim_entries.specs.declared.entry_fault.EntryRefusal.TheVariants.{Bad, Unread}
use Rattle.oim_entries.specs.declared.entry_fault.EntryProblem.TheVariants.{NoHeader, BadHeader, TooMany, CellCount, NotUtf8, BadName, RepeatedName, UnknownType, UnknownPeriod, UnknownValues}
use Rattle.oim_entries.specs.CsvFiles.{EntryFile, all_of, fault_of_read, file_result, text_field}
use Rattle.oim_records.specs.state.ReadFaults.{fault_of_kind}
use Rattle.oim_entries.specs.WholeFile.{kind_said, record_at}
use Rattle.oim_records.specs.declared.read_fault.ReadFault.TheVariants as read
use Rattle.oim_entries.specs.declared.type_words.TypeWords.TheVariants.{Plain, Wider}
use Rattle.oim_entries.specs.FaultNames.{fault_number, fault_name}
use Rattle.oim_records.specs.Grids.{Record, grid, records_left}
use Rattle.oim_entries.specs.ParametersFile.{parameters_entries, parameters_file, parameters_result}
use Rattle.oim_names.specs.Lookup.{value_at}
use Rattle.oim_entries.specs.KindWords.{Words}
use Rattle.oim_entries.specs.TypeWords.{by_type, kind_given, plain_words, table_chosen, wider_words}
use Rattle.oim_entries.specs.state.Held.{table_in}
use Rattle.oim_entries.specs.TypesFile.{types_entries, types_file, types_result}
use Rattle.oim_report.specs.state.Named.{value_under}
use Rattle.oim_report.specs.Types.{kind_in}
use Rattle.oim_entries.specs.declared.fault.MetaFault.TheVariants.{Syntax, NotReport, BadNamespaces, BadTaxonomy, Unsupported, BadIdentifier, BadTemplate, ColumnKinds, UnknownTemplate}
use Rattle.oim_entries.specs.declared.fault.MetaFault.TheVariants.{UnknownColumn, BadDimension, BadDecimals, BadParameter, BadTypes, TooLarge, Memory, Read}
use Rattle.oim_report.specs.declared.kind.Kind.{Kind}
use Rattle.oim_report.specs.declared.typed_name.TypedName.{TypedName}
use Rattle.oim_report.specs.declared.kind.Kind.TheVariants.{Number, Text, Boolean, Date, Name, Other, Explicit, Typed}

-- RECORDS (RFC 4180), after a byte-order mark: a quoted field with a quote, and an empty line.
grids :
    (grid (codes "a") ≡ (codes "a" ∷ []) ∷ [])
    × (grid (239 ∷ 187 ∷ 191 ∷ 97 ∷ 44 ∷ 34 ∷ 98 ∷ 34 ∷ 34 ∷ 99 ∷ 34 ∷ 13 ∷ 10 ∷ 13 ∷ 10 ∷ 100 ∷ [])
    ≡ (codes "a" ∷ (98 ∷ 34 ∷ 99 ∷ []) ∷ []) ∷ (codes "d" ∷ []) ∷ [])
unfolding records_left records_from strip_bom next_record
grids = (refl, refl)

-- A field at an index: one that is UTF-8, one that is not, and an index without a field.
fields : map (text_field (codes "a" ∷ (255 ∷ []) ∷ [])) (0 ∷ 1 ∷ 2 ∷ []) ≡ Some (codes "a") ∷ None ∷ None ∷ []
unfolding field_at is_utf8 chars encode
fields = refl

-- PARAMETERS (xBRL-CSV 1.0, parameters).
abbrev name_value : Record
name_value = codes "name" ∷ codes "value" ∷ []

abbrev parameter : List ℕ → List ℕ → Record
parameter name value = name ∷ value ∷ []

parameters :
    (parameters_result (name_value ∷ []) ≡ Ok [])
    × (parameters_result (name_value ∷ parameter (codes "b") (codes "#x") ∷ parameter (codes "a") [] ∷ []) ≡ Ok ((codes "b", codes "#x") ∷ (codes "a", []) ∷ []))
unfolding all_of is_identifier is_plain_char is_name_char is_name_start chars is_utf8 encode
parameters = (refl, refl)

bad_parameters_headers :
    map parameters_result ([] ∷ (parameter (codes "value") (codes "name") ∷ []) ∷ (parameter (codes "name") (codes "Value") ∷ []) ∷ ((codes "name" ∷ []) ∷ [])
    ∷ ((codes "name" ∷ codes "value" ∷ [] ∷ []) ∷ []) ∷ (parameter (codes "a") (codes "1") ∷ []) ∷ [])
    ≡ Err BadParameter ∷ Err BadParameter ∷ Err BadParameter ∷ Err BadParameter ∷ Err BadParameter ∷ Err BadParameter ∷ []
unfolding all_of is_utf8 chars encode
bad_parameters_headers = refl

-- Another length, bytes that are not UTF-8, a name that is not an identifier, and a name twice.
bad_parameters :
    map (λ rs. parameters_result (name_value ∷ rs))
    (((codes "a" ∷ []) ∷ []) ∷ ((codes "a" ∷ codes "1" ∷ codes "2" ∷ []) ∷ []) ∷ (parameter (codes "a") (255 ∷ []) ∷ []) ∷ (parameter (255 ∷ []) (codes "1") ∷ [])
    ∷ (parameter (codes "a.b") (codes "1") ∷ [])
    ∷ (parameter [] (codes "1") ∷ []) ∷ (parameter (codes "a") (codes "1") ∷ parameter (codes "b") [] ∷ parameter (codes "a") (codes "2") ∷ []) ∷ [])
    ≡ Err BadParameter ∷ Err BadParameter ∷ Err BadParameter ∷ Err BadParameter ∷ Err BadParameter ∷ Err BadParameter ∷ Err BadParameter ∷ []
unfolding all_of is_identifier is_plain_char is_name_char is_name_start chars is_utf8 encode
bad_parameters = refl

-- 65,536 parameters are accepted. One record more is too many, whatever it has.
parameters_limit :
    (all_of parameters_file 65_535 [] (parameter (codes "a") [] ∷ []) ≡ Ok ((codes "a", []) ∷ []))
    × (all_of parameters_file 65_536 [] ([] ∷ []) ≡ Err TooLarge)
    × (all_of parameters_file 65_534 [] (parameter (codes "a") [] ∷ parameter (codes "b") [] ∷ []) ≡ Ok ((codes "a", []) ∷ (codes "b", []) ∷ []))
    × (all_of parameters_file 65_535 [] (parameter (codes "a") [] ∷ [] ∷ []) ≡ Err TooLarge)
unfolding all_of is_identifier is_plain_char is_name_char is_name_start chars is_utf8 encode
parameters_limit = (refl, refl, refl, refl)

-- The header is not among the records that the limit counts.
abbrev at_most_one : EntryFile Record
at_most_one = record { limit = 1; bad = BadTypes; start = []; after = λ _ r. Some r; wrong = λ n _ _. of_whole n CellCount }

whole_files :
    (file_result BadTypes (λ _. Some at_most_one) (name_value ∷ (codes "a" ∷ []) ∷ []) ≡ Ok (codes "a" ∷ []))
    × (file_result BadTypes (λ _. Some at_most_one) (name_value ∷ (codes "a" ∷ []) ∷ (codes "b" ∷ []) ∷ []) ≡ Err TooLarge)
unfolding all_of
whole_files = (refl, refl)

-- TYPES (this project's format).
abbrev namespace_name_type : Record
namespace_name_type = codes "namespace" ∷ codes "name" ∷ codes "type" ∷ []

abbrev typed : List ℕ → List ℕ → List ℕ → Record
typed uri name word = uri ∷ name ∷ word ∷ []

-- A record as contracts see it.
abbrev known : List ℕ → List ℕ → Kind → TypedName
known uri name k = record { uri = uri; local = name; kind = k }

-- The type names under `type`, and those under `type2`.
abbrev kinds_by : Words → List (List ℕ) → List (Option Kind)
kinds_by words ws = map (λ w. value_at w words) ws

abbrev old_words : List (List ℕ)
old_words = codes "integer" ∷ codes "decimal" ∷ codes "double" ∷ codes "text" ∷ codes "other" ∷ codes "explicit" ∷ codes "typed" ∷ codes "Text" ∷ [] ∷ []

abbrev old_kinds : List (Option Kind)
old_kinds = Some (Number Integer) ∷ Some (Number Decimal) ∷ Some (Number Double) ∷ Some Text ∷ Some Other ∷ Some Explicit ∷ Some Typed ∷ None ∷ None ∷ []

abbrev new_words : List (List ℕ)
new_words = codes "boolean" ∷ codes "date" ∷ codes "qname" ∷ codes "QName" ∷ []

words :
    (kinds_by plain_words old_words ≡ old_kinds) × (kinds_by plain_words new_words ≡ None ∷ None ∷ None ∷ None ∷ [])
    × (kinds_by wider_words old_words ≡ old_kinds) × (kinds_by wider_words new_words ≡ Some Boolean ∷ Some Date ∷ Some Name ∷ None ∷ [])
words = (refl, refl, refl, refl)

words_of_tables : map (λ t. kind_given (table_in t) ([], [], codes "date", [], [])) (Plain ∷ Wider ∷ []) ≡ Err (2, UnknownType) ∷ Ok Date ∷ []
words_of_tables = refl

-- The header chooses the type names.
words_by_header : map (λ w. table_chosen (typed (codes "namespace") (codes "name") w)) (codes "type" ∷ codes "type2" ∷ codes "type1" ∷ codes "Type2" ∷ codes "type3" ∷ [])
    ≡ Some (by_type plain_words) ∷ Some (by_type wider_words) ∷ None ∷ None ∷ None ∷ []
unfolding is_utf8 chars encode
words_by_header = refl

abbrev namespace_name_type2 : Record
namespace_name_type2 = codes "namespace" ∷ codes "name" ∷ codes "type2" ∷ []

abbrev open_boolean : List Record
open_boolean = typed (codes "u") (codes "Open") (codes "boolean") ∷ typed (codes "u") (codes "Cash") (codes "integer") ∷ []

new_word_under_each_header :
    (types_result (namespace_name_type2 ∷ open_boolean) ≡ Ok (known (codes "u") (codes "Open") Boolean ∷ known (codes "u") (codes "Cash") (Number Integer) ∷ []))
    × (types_result (namespace_name_type ∷ open_boolean) ≡ Err BadTypes)
unfolding all_of is_ncname is_name_char is_name_start chars is_utf8 encode
new_word_under_each_header = (refl, refl)

-- One name in two namespaces. A namespace can be any text, and a name can have a dot.
types :
    (types_result (namespace_name_type ∷ []) ≡ Ok [])
    × (types_result (namespace_name_type ∷ typed (codes "u") (codes "a") (codes "text") ∷ typed [] (codes "a") (codes "typed") ∷ typed (codes "u") (codes "b.c") (codes "other") ∷ [])
    ≡ Ok (known (codes "u") (codes "a") Text ∷ known [] (codes "a") Typed ∷ known (codes "u") (codes "b.c") Other ∷ []))
unfolding all_of is_ncname is_name_char is_name_start chars is_utf8 encode
types = (refl, refl)

kinds_found :
    map (kind_in (known (codes "u") (codes "a") Text ∷ known (codes "u") (codes "b") Other ∷ known (codes "v") (codes "a") Typed ∷ []) (codes "v"))
    (codes "a" ∷ codes "b" ∷ codes "v" ∷ []) ≡ Some Typed ∷ None ∷ None ∷ []
kinds_found = refl

-- The same, for the groups by which the kinds are looked up.
kinds_under :
    map (value_under ((codes "u", (codes "a", Text) ∷ (codes "b", Other) ∷ []) ∷ (codes "v", (codes "a", Typed) ∷ []) ∷ []) (codes "v"))
    (codes "a" ∷ codes "b" ∷ codes "v" ∷ []) ≡ Some Typed ∷ None ∷ None ∷ []
kinds_under = refl

-- A name of a namespace has the kind of its first record.
abbrev three_types : List Record
three_types = typed (codes "u") (codes "a") (codes "text") ∷ typed (codes "v") (codes "a") (codes "typed") ∷ typed (codes "u") (codes "a") (codes "other") ∷ []

kinds_of_records :
    (kind_said (by_type plain_words) three_types (codes "u") (codes "a") ≡ Some Text) × (kind_said (by_type plain_words) three_types (codes "v") (codes "a") ≡ Some Typed)
    × (kind_said (by_type plain_words) three_types (codes "a") (codes "u") ≡ None) × (kind_said (by_type plain_words) three_types (codes "u") (codes "b") ≡ None)
unfolding is_utf8 chars encode
kinds_of_records = (refl, refl, refl, refl)

records_at : map (record_at ((codes "a" ∷ []) ∷ (codes "b" ∷ []) ∷ [])) (0 ∷ 1 ∷ 2 ∷ []) ≡ Some (codes "a" ∷ []) ∷ Some (codes "b" ∷ []) ∷ None ∷ []
records_at = refl

bad_types_headers :
    map types_result ([] ∷ (typed (codes "name") (codes "namespace") (codes "type") ∷ []) ∷ (typed (codes "namespace") (codes "name") (codes "kind") ∷ [])
    ∷ (typed (codes "namespace") (codes "names") (codes "type") ∷ [])
    ∷ ((codes "namespace" ∷ codes "name" ∷ []) ∷ []) ∷ ((codes "namespace" ∷ codes "name" ∷ codes "type" ∷ [] ∷ []) ∷ []) ∷ [])
    ≡ Err BadTypes ∷ Err BadTypes ∷ Err BadTypes ∷ Err BadTypes ∷ Err BadTypes ∷ Err BadTypes ∷ []
unfolding all_of is_utf8 chars encode
bad_types_headers = refl

bad_types :
    map (λ rs. types_result (namespace_name_type ∷ rs))
    (((codes "u" ∷ codes "a" ∷ []) ∷ []) ∷ ((codes "u" ∷ codes "a" ∷ codes "text" ∷ [] ∷ []) ∷ []) ∷ (typed (255 ∷ []) (codes "a") (codes "text") ∷ [])
    ∷ (typed (codes "u") (255 ∷ []) (codes "text") ∷ [])
    ∷ (typed (codes "u") (codes "a") (255 ∷ []) ∷ []) ∷ (typed (codes "u") (codes "a:b") (codes "text") ∷ []) ∷ (typed (codes "u") (codes "a") (codes "money") ∷ [])
    ∷ (typed (codes "u") (codes "a") (codes "text") ∷ typed (codes "u") (codes "a") (codes "other") ∷ []) ∷ [])
    ≡ Err BadTypes ∷ Err BadTypes ∷ Err BadTypes ∷ Err BadTypes ∷ Err BadTypes ∷ Err BadTypes ∷ Err BadTypes ∷ Err BadTypes ∷ []
unfolding all_of is_ncname is_name_char is_name_start chars is_utf8 encode
bad_types = refl

-- 1,048,576 records are accepted. One more is too many, whatever it has.
types_limit :
    (all_of (types_file (by_type plain_words)) 1_048_575 [] (typed (codes "u") (codes "a") (codes "text") ∷ []) ≡ Ok (known (codes "u") (codes "a") Text ∷ []))
    × (all_of (types_file (by_type plain_words)) 1_048_576 [] ([] ∷ []) ≡ Err TooLarge)
unfolding all_of is_ncname is_name_char is_name_start chars is_utf8 encode
types_limit = (refl, refl)

-- The fault is that of the earliest bad record.
earliest : all_of parameters_file 65_535 [] ([] ∷ [] ∷ []) ≡ Err BadParameter
unfolding all_of
earliest = refl

-- THE FIRST BAD RECORD: its number, where the header is 0, its cell, from 0, and its fields.
abbrev bad_at : ℕ → Option ℕ → EntryProblem → Record → Option BadRecord
bad_at n column problem r = Some (in_cell n column problem, r)

abbrev bad_parameter : List Record → Option BadRecord
bad_parameter rs = result_err (parameters_entries rs)

abbrev bad_type : List Record → Option BadRecord
bad_type rs = result_err (types_entries rs)

-- The header is the first to be bad. A cell that is not UTF-8 is bad before the name.
bad_parameters_found :
    (bad_parameter [] ≡ bad_at 0 None NoHeader [])
    × (bad_parameter (parameter (codes "name") (codes "Value") ∷ ([] ∷ [])) ≡ bad_at 0 None BadHeader (parameter (codes "name") (codes "Value")))
    × (bad_parameter (name_value ∷ parameter (codes "a") (codes "1") ∷ parameter (codes "b") [] ∷ []) ≡ None)
    × (bad_parameter (name_value ∷ parameter (codes "a") (codes "1") ∷ (codes "b" ∷ []) ∷ [] ∷ []) ≡ bad_at 2 None CellCount (codes "b" ∷ []))
    × (bad_parameter (name_value ∷ parameter (codes "a.b") (255 ∷ []) ∷ []) ≡ bad_at 1 (Some 1) NotUtf8 (parameter (codes "a.b") (255 ∷ [])))
    × (bad_parameter (name_value ∷ parameter (255 ∷ []) (255 ∷ []) ∷ []) ≡ bad_at 1 (Some 0) NotUtf8 (parameter (255 ∷ []) (255 ∷ [])))
    × (bad_parameter (name_value ∷ parameter (codes "a.b") (codes "1") ∷ []) ≡ bad_at 1 (Some 0) BadName (parameter (codes "a.b") (codes "1")))
    × (bad_parameter (name_value ∷ parameter (codes "a") (codes "1") ∷ parameter (codes "b") [] ∷ parameter (codes "a") (codes "2") ∷ [])
    ≡ bad_at 3 (Some 0) RepeatedName (parameter (codes "a") (codes "2")))
unfolding entries_of is_identifier is_plain_char is_name_char is_name_start chars is_utf8 encode
bad_parameters_found = (refl, refl, refl, refl, refl, refl, refl, refl)

-- A record with a repeated name and an unknown type: the name is bad.
bad_types_found :
    (bad_type [] ≡ bad_at 0 None NoHeader [])
    × (bad_type (name_value ∷ []) ≡ bad_at 0 None BadHeader name_value)
    × (bad_type (namespace_name_type ∷ typed (codes "u") (codes "a") (codes "text") ∷ typed (codes "v") (codes "a") (codes "text") ∷ []) ≡ None)
    × (bad_type (namespace_name_type ∷ name_value ∷ []) ≡ bad_at 1 None CellCount name_value)
    × (bad_type (namespace_name_type ∷ typed (255 ∷ []) (codes "a") (codes "text") ∷ []) ≡ bad_at 1 (Some 0) NotUtf8 (typed (255 ∷ []) (codes "a") (codes "text")))
    × (bad_type (namespace_name_type ∷ typed (codes "u") (255 ∷ []) (255 ∷ []) ∷ []) ≡ bad_at 1 (Some 1) NotUtf8 (typed (codes "u") (255 ∷ []) (255 ∷ [])))
    × (bad_type (namespace_name_type ∷ typed (codes "u") (codes "a:b") (255 ∷ []) ∷ []) ≡ bad_at 1 (Some 2) NotUtf8 (typed (codes "u") (codes "a:b") (255 ∷ [])))
    × (bad_type (namespace_name_type ∷ typed (codes "u") (codes "a:b") (codes "money") ∷ []) ≡ bad_at 1 (Some 1) BadName (typed (codes "u") (codes "a:b") (codes "money")))
    × (bad_type (namespace_name_type ∷ typed (codes "u") (codes "a") (codes "text") ∷ typed (codes "u") (codes "a") (codes "money") ∷ [])
    ≡ bad_at 2 (Some 1) RepeatedName (typed (codes "u") (codes "a") (codes "money")))
    × (bad_type (namespace_name_type ∷ typed (codes "u") (codes "a") (codes "boolean") ∷ []) ≡ bad_at 1 (Some 2) UnknownType (typed (codes "u") (codes "a") (codes "boolean")))
    × (bad_type (namespace_name_type2 ∷ typed (codes "u") (codes "a") (codes "boolean") ∷ []) ≡ None)
unfolding entries_of is_ncname is_name_char is_name_start chars is_utf8 encode
bad_types_found = (refl, refl, refl, refl, refl, refl, refl, refl, refl, refl, refl)

-- A record past the limit is bad as a whole, whatever it has.
past_the_limit :
    (entries_of parameters_file 65_535 [] (parameter (codes "a") [] ∷ [] ∷ []) ≡ Err (of_whole 65_537 TooMany, []))
    × (entries_of (types_file (by_type plain_words)) 1_048_576 [] (name_value ∷ []) ≡ Err (of_whole 1_048_577 TooMany, name_value))
    × (file_entries (λ _. Some at_most_one) (name_value ∷ (codes "a" ∷ []) ∷ (codes "b" ∷ []) ∷ []) ≡ Err (of_whole 2 TooMany, codes "b" ∷ []))
unfolding entries_of is_identifier is_plain_char is_name_char is_name_start chars is_utf8 encode
past_the_limit = (refl, refl, refl)

-- The published fault of each problem.
published_faults :
    map (meta_fault BadTypes) (NoHeader ∷ BadHeader ∷ TooMany ∷ CellCount ∷ NotUtf8 ∷ BadName ∷ RepeatedName ∷ UnknownType ∷ UnknownPeriod ∷ UnknownValues ∷ [])
    ≡ BadTypes ∷ BadTypes ∷ TooLarge ∷ BadTypes ∷ BadTypes ∷ BadTypes ∷ BadTypes ∷ BadTypes ∷ BadTypes ∷ BadTypes ∷ []
published_faults = refl

-- The published fault of a refusal: that of its bad record, or of its read.
published_refusals :
    map (refusal_fault BadTypes) (Bad (of_whole 1 TooMany, []) ∷ Bad (in_cell 2 (Some 1) BadName, name_value) ∷ Unread read.Read ∷ Unread read.Memory ∷ [])
    ≡ TooLarge ∷ BadTypes ∷ Read ∷ Memory ∷ []
published_refusals = refl

-- THE FAULTS: this project's numbers and names.
numbers :
    map fault_number (Syntax ∷ NotReport ∷ BadNamespaces ∷ BadTaxonomy ∷ Unsupported ∷ BadIdentifier ∷ BadTemplate ∷ ColumnKinds ∷ UnknownTemplate
    ∷ UnknownColumn ∷ BadDimension ∷ BadDecimals ∷ BadParameter ∷ BadTypes ∷ TooLarge ∷ Memory ∷ Read ∷ [])
    ≡ 1 ∷ 2 ∷ 3 ∷ 4 ∷ 5 ∷ 6 ∷ 7 ∷ 8 ∷ 9 ∷ 10 ∷ 11 ∷ 12 ∷ 13 ∷ 14 ∷ 15 ∷ 16 ∷ 17 ∷ []
numbers = refl

faults_of_readers : (map fault_of_read (read.Read ∷ read.Memory ∷ []) ≡ Read ∷ Memory ∷ []) × (fault_of_kind kind.OutOfMemory ≡ read.Memory)
faults_of_readers = (refl, refl)

-- Every other error of the CSV reader is a failed read.
failed_reader : (e : _) → fault_of_kind (kind.Io e) ≡ read.Read
failed_reader e = refl

field_of_no_text : (p e : _) → fault_of_kind (kind.Utf8 p e) ≡ read.Read
field_of_no_text p e = refl

another_length : (p expected found : _) → fault_of_kind (kind.UnequalLengths p expected found) ≡ read.Read
another_length p expected found = refl

value_not_written : (t : _) → fault_of_kind (kind.Serialize t) ≡ read.Read
value_not_written t = refl

record_of_no_value : (p e : _) → fault_of_kind (kind.Deserialize p e) ≡ read.Read
record_of_no_value p e = refl

names :
    map fault_name (Syntax ∷ NotReport ∷ BadNamespaces ∷ BadTaxonomy ∷ Unsupported ∷ BadIdentifier ∷ BadTemplate ∷ ColumnKinds ∷ UnknownTemplate
    ∷ UnknownColumn ∷ BadDimension ∷ BadDecimals ∷ BadParameter ∷ BadTypes ∷ TooLarge ∷ Memory ∷ Read ∷ [])
    ≡ codes "Syntax" ∷ codes "NotReport" ∷ codes "BadNamespaces" ∷ codes "BadTaxonomy" ∷ codes "Unsupported" ∷ codes "BadIdentifier" ∷ codes "BadTemplate"
    ∷ codes "ColumnKinds" ∷ codes "UnknownTemplate"
    ∷ codes "UnknownColumn" ∷ codes "BadDimension" ∷ codes "BadDecimals" ∷ codes "BadParameter" ∷ codes "BadTypes" ∷ codes "TooLarge" ∷ codes "Memory" ∷ codes "Read" ∷ []
names = refl

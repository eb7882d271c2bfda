-- The types table under `type3` on worked cases: every word, and each refusal. The results are from
-- this project's format.
use Rattle.std.proofs.Common.{◌≡◌, ℕ, List, [], ◌∷◌, Option, Some, None, Result, Ok, Err, refl, codes, map}
use Rattle.std.specs.Result.{result_err}
use Rattle.std.specs.Str.{chars, is_utf8}
use lib.Utf8.{encode}
use Rattle.oim_cells.specs.declared.cells.NumberKind.TheVariants as number
use Rattle.oim_names.specs.Names.{is_name_start, is_name_char, is_ncname}
use Rattle.oim_schema.specs.declared.dates.DateForm.TheVariants as date
use Rattle.oim_schema.specs.declared.integers.IntegerType.TheVariants as integer
use Rattle.oim_records.specs.Grids.{Record}
use Rattle.oim_report.specs.Types.{TypesValue}
use Rattle.oim_report.specs.declared.kind.Kind.{Kind}
use Rattle.oim_report.specs.declared.kind.Kind.TheVariants as kind
use Rattle.oim_report.specs.declared.kind.PeriodType.{PeriodType}
use Rattle.oim_report.specs.declared.kind.PeriodType.TheVariants.{Instant, Duration}
use Rattle.oim_report.specs.declared.kind.SimpleType.{SimpleType}
use Rattle.oim_report.specs.declared.kind.SimpleType.TheVariants as simple
use Rattle.oim_report.specs.declared.kind.ValueType.{ValueType}
use Rattle.oim_report.specs.declared.kind.ValueType.TheVariants as value
use Rattle.oim_report.specs.declared.typed_name.TypedName.{TypedName}
use Rattle.oim_entries.specs.BadEntries.{BadRecord, entries_of}
use Rattle.oim_entries.specs.CsvFiles.{all_of}
use Rattle.oim_entries.specs.EntryFaults.{in_cell}
use Rattle.oim_entries.specs.TypeWords.{by_three, kind_given, table_chosen}
use Rattle.oim_entries.specs.TypesFile.{types_entries, types_file, types_result}
use Rattle.oim_entries.specs.WholeFile.{kind_said}
use Rattle.oim_entries.specs.declared.entry_fault.EntryProblem.{EntryProblem}
use Rattle.oim_entries.specs.declared.entry_fault.EntryProblem.TheVariants.{CellCount, NotUtf8, BadName, RepeatedName, UnknownType, UnknownPeriod, UnknownValues}
use Rattle.oim_entries.specs.declared.fault.MetaFault.TheVariants.{BadTypes, TooLarge}
use Rattle.oim_entries.specs.declared.type_words.TypeWords.TheVariants.{Longest}
use Rattle.oim_entries.specs.state.Held.{table_in}

-- What a type, a period and values give.
abbrev given : List ℕ → List ℕ → List ℕ → Result Kind (ℕ × EntryProblem)
given word period values = kind_given by_three (codes "u", codes "a", word, period, values)

abbrev concept : ValueType → Option PeriodType → Result Kind (ℕ × EntryProblem)
concept v p = Ok (kind.Concept (record { value = v; period = p }))

-- CONCEPTS of every simple type, in the order of XML Schema part 2's integers, and then of its
-- other types.
abbrev simple_names : List (List ℕ)
simple_names =
    codes "integer" ∷ codes "decimal" ∷ codes "double" ∷ codes "positiveInteger" ∷ codes "nonNegativeInteger"
    ∷ codes "negativeInteger" ∷ codes "nonPositiveInteger" ∷ codes "long" ∷ codes "int" ∷ codes "short"
    ∷ codes "byte" ∷ codes "unsignedLong" ∷ codes "unsignedInt" ∷ codes "unsignedShort" ∷ codes "unsignedByte"
    ∷ codes "boolean" ∷ codes "qname" ∷ codes "date" ∷ codes "dateTime" ∷ codes "time"
    ∷ codes "gYear" ∷ codes "gYearMonth" ∷ codes "gMonth" ∷ codes "gMonthDay" ∷ codes "gDay"
    ∷ codes "duration" ∷ codes "language" ∷ codes "NCName" ∷ codes "hexBinary" ∷ []

abbrev simple_types : List SimpleType
simple_types =
    simple.Number number.Integer ∷ simple.Number number.Decimal ∷ simple.Number number.Double ∷ simple.Bounded integer.PositiveInteger
    ∷ simple.Bounded integer.NonNegativeInteger ∷ simple.Bounded integer.NegativeInteger ∷ simple.Bounded integer.NonPositiveInteger ∷ simple.Bounded integer.Long
    ∷ simple.Bounded integer.Int ∷ simple.Bounded integer.Short ∷ simple.Bounded integer.Byte ∷ simple.Bounded integer.UnsignedLong
    ∷ simple.Bounded integer.UnsignedInt ∷ simple.Bounded integer.UnsignedShort ∷ simple.Bounded integer.UnsignedByte ∷ simple.Boolean
    ∷ simple.QName ∷ simple.DateTime date.Date ∷ simple.DateTime date.DateTime ∷ simple.DateTime date.Time
    ∷ simple.DateTime date.GYear ∷ simple.DateTime date.GYearMonth ∷ simple.DateTime date.GMonth ∷ simple.DateTime date.GMonthDay
    ∷ simple.DateTime date.GDay ∷ simple.Duration ∷ simple.Language ∷ simple.NcName
    ∷ simple.HexBinary ∷ []

simple_concepts : map (λ w. given w [] []) simple_names ≡ map (λ t. concept (value.Simple t) None) simple_types
simple_concepts = refl

-- Concepts of the other values.
other_concepts :
    map (λ w. given w [] []) (codes "monetary" ∷ codes "shares" ∷ codes "text" ∷ codes "enumeration" ∷ codes "enumerations" ∷ codes "other" ∷ [])
    ≡ map (λ v. concept v None) (value.Monetary ∷ value.Shares ∷ value.Text ∷ value.Enumeration ∷ value.Enumerations ∷ value.Other ∷ [])
other_concepts = refl

-- PERIODS: none, instants and durations. The word `duration` is a type and a period.
periods :
    (map (λ p. given (codes "monetary") p []) ([] ∷ codes "instant" ∷ codes "duration" ∷ [])
    ≡ concept value.Monetary None ∷ concept value.Monetary (Some Instant) ∷ concept value.Monetary (Some Duration) ∷ [])
    × (map (λ p. given (codes "duration") p []) ([] ∷ codes "instant" ∷ codes "duration" ∷ [])
    ≡ concept (value.Simple simple.Duration) None ∷ concept (value.Simple simple.Duration) (Some Instant) ∷ concept (value.Simple simple.Duration) (Some Duration) ∷ [])
    × (map (λ p. given (codes "other") p []) (codes "instant" ∷ codes "Instant" ∷ codes "forever" ∷ codes " " ∷ [])
    ≡ concept value.Other (Some Instant) ∷ Err (3, UnknownPeriod) ∷ Err (3, UnknownPeriod) ∷ Err (3, UnknownPeriod) ∷ [])
periods = (refl, refl, refl)

-- DIMENSIONS AND MEMBERS: an explicit dimension, a typed one of any text and of every simple type,
-- and a member.
dimensions :
    (given (codes "explicit") [] [] ≡ Ok kind.Explicit) × (given (codes "typed") [] [] ≡ Ok kind.Typed) × (given (codes "member") [] [] ≡ Ok kind.Member)
dimensions = (refl, refl, refl)

typed_dimensions : map (λ w. given (codes "typed") [] w) simple_names ≡ map (λ t. Ok (kind.TypedBy t)) simple_types
typed_dimensions = refl

-- The same answer for each of these words.
abbrev each : ℕ × EntryProblem → List (List ℕ) → List (Result Kind (ℕ × EntryProblem))
each e ws = map (λ (w : List ℕ). Err e) ws

-- REFUSED TYPES: words of schemas and of other columns, other letters, and blanks.
abbrev no_words : List (List ℕ)
no_words =
    [] ∷ codes "string" ∷ codes "float" ∷ codes "pure" ∷ codes "anyURI" ∷ codes "Integer" ∷ codes "QName" ∷ codes "ncname" ∷ codes "integer " ∷ codes "instant" ∷ []

no_types : map (λ w. given w [] []) no_words ≡ each (2, UnknownType) no_words
no_types = refl

-- REFUSED PERIODS: those of a dimension and of a member.
abbrev no_concepts : List (List ℕ)
no_concepts = codes "explicit" ∷ codes "typed" ∷ codes "member" ∷ []

no_periods : map (λ w. given w (codes "instant") []) no_concepts ≡ each (3, UnknownPeriod) no_concepts
no_periods = refl

-- REFUSED VALUES: those of a concept, an explicit dimension and a member, and words that are not
-- simple types.
abbrev not_typed : List (List ℕ)
not_typed = codes "integer" ∷ codes "explicit" ∷ codes "member" ∷ []

abbrev no_simple_types : List (List ℕ)
no_simple_types =
    codes "monetary" ∷ codes "shares" ∷ codes "text" ∷ codes "enumeration" ∷ codes "other" ∷ codes "typed" ∷ codes "Boolean" ∷ codes " " ∷ []

no_values :
    (map (λ w. given w [] (codes "integer")) not_typed ≡ each (4, UnknownValues) not_typed)
    × (map (λ w. given (codes "typed") [] w) no_simple_types ≡ each (4, UnknownValues) no_simple_types)
no_values = (refl, refl)

-- The first bad cell counts: the type before the period, and the period before the values.
first_bad_cells :
    (given (codes "money") (codes "ever") (codes "x") ≡ Err (2, UnknownType)) × (given (codes "typed") (codes "ever") (codes "x") ≡ Err (3, UnknownPeriod))
    × (given (codes "text") (codes "instant") (codes "x") ≡ Err (4, UnknownValues))
first_bad_cells = (refl, refl, refl)

-- THE FILE. Its header, and headers that are refused.
abbrev header : Record
header = codes "namespace" ∷ codes "name" ∷ codes "type3" ∷ codes "period" ∷ codes "values" ∷ []

abbrev five : List ℕ → List ℕ → List ℕ → List ℕ → List ℕ → Record
five uri name word period values = uri ∷ name ∷ word ∷ period ∷ values ∷ []

longest_of_tables : table_in Longest ≡ by_three
longest_of_tables = refl

headers :
    (table_chosen header ≡ Some by_three)
    × (map table_chosen (five (codes "namespace") (codes "name") (codes "type2") (codes "period") (codes "values")
    ∷ five (codes "namespace") (codes "name") (codes "type3") (codes "values") (codes "period")
    ∷ five (codes "name") (codes "namespace") (codes "type3") (codes "period") (codes "values")
    ∷ five (codes "namespace") (codes "Name") (codes "type3") (codes "period") (codes "values")
    ∷ (codes "namespace" ∷ codes "name" ∷ codes "type3" ∷ codes "period" ∷ []) ∷ (codes "namespace" ∷ codes "name" ∷ codes "type3" ∷ codes "period" ∷ codes "values" ∷ [] ∷ []) ∷ [])
    ≡ None ∷ None ∷ None ∷ None ∷ None ∷ None ∷ [])
unfolding is_utf8 chars encode
headers = (refl, refl)

abbrev cash : Record
cash = five (codes "u") (codes "Cash") (codes "monetary") (codes "instant") []

abbrev currency : Record
currency = five (codes "u") (codes "Currency") (codes "typed") [] (codes "NCName")

abbrev red : Record
red = five (codes "v") (codes "Red") (codes "member") [] []

abbrev known : List ℕ → List ℕ → Kind → TypedName
known uri name k = record { uri = uri; local = name; kind = k }

abbrev three_known : TypesValue
three_known =
    known (codes "u") (codes "Cash") (kind.Concept (record { value = value.Monetary; period = Some Instant }))
    ∷ known (codes "u") (codes "Currency") (kind.TypedBy simple.NcName)
    ∷ known (codes "v") (codes "Red") kind.Member
    ∷ []

types :
    (types_result (header ∷ []) ≡ Ok []) × (types_result (header ∷ cash ∷ currency ∷ red ∷ []) ≡ Ok three_known)
    × (kind_said by_three (cash ∷ currency ∷ red ∷ []) (codes "v") (codes "Red") ≡ Some kind.Member)
    × (kind_said by_three (cash ∷ currency ∷ red ∷ []) (codes "u") (codes "Red") ≡ None)
unfolding all_of is_ncname is_name_char is_name_start chars is_utf8 encode
types = (refl, refl, refl, refl)

-- THE FIRST BAD RECORD: its number, where the header is 0, its cell, from 0, and its fields.
abbrev bad_at : ℕ → Option ℕ → EntryProblem → Record → Option BadRecord
bad_at n column problem r = Some (in_cell n column problem, r)

abbrev bad_type : List Record → Option BadRecord
bad_type rs = result_err (types_entries rs)

-- A cell that is not UTF-8 is bad before the name, and the name before the cells after it.
bad_types :
    (bad_type (header ∷ cash ∷ currency ∷ []) ≡ None)
    × (bad_type (header ∷ cash ∷ (codes "u" ∷ codes "b" ∷ codes "text" ∷ []) ∷ []) ≡ bad_at 2 None CellCount (codes "u" ∷ codes "b" ∷ codes "text" ∷ []))
    × (bad_type (header ∷ five (codes "u") (codes "a:b") (codes "money") [] (255 ∷ []) ∷ []) ≡ bad_at 1 (Some 4) NotUtf8 (five (codes "u") (codes "a:b") (codes "money") [] (255 ∷ [])))
    × (bad_type (header ∷ five (codes "u") (codes "b") (codes "text") (255 ∷ []) (255 ∷ []) ∷ [])
    ≡ bad_at 1 (Some 3) NotUtf8 (five (codes "u") (codes "b") (codes "text") (255 ∷ []) (255 ∷ [])))
    × (bad_type (header ∷ five (codes "u") (codes "a:b") (codes "money") [] [] ∷ []) ≡ bad_at 1 (Some 1) BadName (five (codes "u") (codes "a:b") (codes "money") [] []))
    × (bad_type (header ∷ cash ∷ five (codes "u") (codes "Cash") (codes "money") [] [] ∷ [])
    ≡ bad_at 2 (Some 1) RepeatedName (five (codes "u") (codes "Cash") (codes "money") [] []))
    × (bad_type (header ∷ five (codes "u") (codes "b") (codes "money") (codes "ever") [] ∷ [])
    ≡ bad_at 1 (Some 2) UnknownType (five (codes "u") (codes "b") (codes "money") (codes "ever") []))
    × (bad_type (header ∷ cash ∷ five (codes "u") (codes "b") (codes "text") (codes "ever") (codes "x") ∷ [])
    ≡ bad_at 2 (Some 3) UnknownPeriod (five (codes "u") (codes "b") (codes "text") (codes "ever") (codes "x")))
    × (bad_type (header ∷ five (codes "u") (codes "b") (codes "text") [] (codes "integer") ∷ red ∷ [])
    ≡ bad_at 1 (Some 4) UnknownValues (five (codes "u") (codes "b") (codes "text") [] (codes "integer")))
unfolding entries_of is_ncname is_name_char is_name_start chars is_utf8 encode
bad_types = (refl, refl, refl, refl, refl, refl, refl, refl, refl)

bad_results :
    map (λ r. types_result (header ∷ r ∷ []))
    (five (codes "u") (codes "b") (codes "money") [] [] ∷ five (codes "u") (codes "b") (codes "text") (codes "ever") [] ∷ five (codes "u") (codes "b") (codes "text") [] (codes "integer") ∷ [])
    ≡ Err BadTypes ∷ Err BadTypes ∷ Err BadTypes ∷ []
unfolding all_of is_ncname is_name_char is_name_start chars is_utf8 encode
bad_results = refl

-- The limit of records is that of the other headers.
limit :
    (all_of (types_file by_three) 1_048_575 [] (red ∷ []) ≡ Ok (known (codes "v") (codes "Red") kind.Member ∷ []))
    × (all_of (types_file by_three) 1_048_576 [] ([] ∷ []) ≡ Err TooLarge)
unfolding all_of is_ncname is_name_char is_name_start chars is_utf8 encode
limit = (refl, refl)

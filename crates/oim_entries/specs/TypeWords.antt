-- The type names of a types table, each with the kind of its concept, dimension or member. The
-- header chooses the set of type names, and how many fields a record has.
use Rattle.std.specs.Prelude.{ℕ, List, [], ◌∷◌, ◌&&◌, Bool, false, Option, Some, None, Result, Err, if◌then◌else◌, codes}
use Rattle.std.specs.Option.{ok_or, option_and_then, option_map, option_map_or, option_or}
use Rattle.std.specs.Str.{bytes_eq}
use Rattle.oim_names.specs.Lookup.{value_at}
use Rattle.oim_cells.specs.declared.cells.NumberKind.TheVariants as number
use Rattle.oim_entries.specs.CsvFiles.{five_texts, three_texts}
use Rattle.oim_entries.specs.KindWords.{Words, kind_words, with_period, with_values}
use Rattle.oim_entries.specs.declared.entry_fault.EntryProblem.{EntryProblem}
use Rattle.oim_entries.specs.declared.entry_fault.EntryProblem.TheVariants.{UnknownPeriod, UnknownType, UnknownValues}
use Rattle.oim_records.specs.Grids.{Field, Record}
use Rattle.oim_report.specs.declared.kind.Kind.{Kind}
use Rattle.oim_report.specs.declared.kind.Kind.TheVariants as kind

-- Under `type`.
abbrev pub plain_words : Words
plain_words =
    (codes "integer", kind.Number number.Integer)
    ∷ (codes "decimal", kind.Number number.Decimal)
    ∷ (codes "double", kind.Number number.Double)
    ∷ (codes "text", kind.Text)
    ∷ (codes "other", kind.Other)
    ∷ (codes "explicit", kind.Explicit)
    ∷ (codes "typed", kind.Typed)
    ∷ []

-- Under `type2`: three more type names.
abbrev pub wider_words : Words
wider_words =
    (codes "boolean", kind.Boolean)
    ∷ (codes "date", kind.Date)
    ∷ (codes "qname", kind.Name)
    ∷ plain_words

-- How records give kinds: by their third field, which is one of these type names; or, under
-- `type3`, by three fields, which are the type, the period and the values.
pub data Table : Type 0 where
  by_type : Words → Table
  by_three : Table

-- The headers: namespace,name,type and namespace,name,type2, and
-- namespace,name,type3,period,values.
abbrev pub tables_by_type : List (List ℕ × Table)
tables_by_type = (codes "type", by_type plain_words) ∷ (codes "type2", by_type wider_words) ∷ []

abbrev pub table_named : Field × Field × Field → Option Table
table_named p = if bytes_eq p.0 (codes "namespace") && bytes_eq p.1 (codes "name") then value_at p.2 tables_by_type else None

abbrev pub is_longest_header : Record → Bool
is_longest_header header =
    option_map_or (λ p. bytes_eq p.0 (codes "namespace") && bytes_eq p.1 (codes "name") && bytes_eq p.2 (codes "type3") && bytes_eq p.3 (codes "period")
    && bytes_eq p.4 (codes "values")) (five_texts header) false

-- The table that a header chooses.
abbrev pub table_chosen : Record → Option Table
table_chosen header = option_or (option_and_then table_named (three_texts header)) (if is_longest_header header then Some by_three else None)

-- The texts of a record: its namespace, its name, its type, its period and its values. Where a
-- record has three fields, the last two are empty.
abbrev pub TypeTexts : Type 0
TypeTexts = Field × Field × Field × Field × Field

abbrev pub texts_in : Table → Record → Option TypeTexts
texts_in (by_type words) r = option_map (λ p. (p.0, p.1, p.2, [], [])) (three_texts r)
texts_in by_three r = five_texts r

abbrev pub field_count : Table → ℕ
field_count (by_type words) = 3
field_count by_three = 5

-- The kind of a type, a period and values, or the index of the first bad cell with what is wrong.
abbrev pub kind_by_values : Kind → Field → Result Kind (ℕ × EntryProblem)
kind_by_values k values = ok_or (with_values k values) (4, UnknownValues)

abbrev pub kind_by_period : Kind → Field → Field → Result Kind (ℕ × EntryProblem)
kind_by_period k period values = option_map_or (λ l. kind_by_values l values) (with_period k period) (Err (3, UnknownPeriod))

abbrev pub kind_by_cells : Field → Field → Field → Result Kind (ℕ × EntryProblem)
kind_by_cells word period values = option_map_or (λ k. kind_by_period k period values) (value_at word kind_words) (Err (2, UnknownType))

-- The kind that a record's texts give, or the first bad cell after the name.
abbrev pub kind_given : Table → TypeTexts → Result Kind (ℕ × EntryProblem)
kind_given (by_type words) p = ok_or (value_at p.2 words) (2, UnknownType)
kind_given by_three p = kind_by_cells p.2 p.3 p.4

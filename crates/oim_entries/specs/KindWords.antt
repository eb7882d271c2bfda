-- What a type, a period and values may be under `type3`, each with what it gives.
use Rattle.std.specs.Prelude.{ℕ, List, [], ◌∷◌, Option, Some, None, codes, map}
use Rattle.std.specs.Option.{option_map}
use Rattle.oim_names.specs.Lookup.{value_at}
use Rattle.oim_cells.specs.declared.cells.NumberKind.TheVariants as number
use Rattle.oim_records.specs.Grids.{Field}
use Rattle.oim_report.specs.declared.kind.Kind.{Kind}
use Rattle.oim_report.specs.declared.kind.Kind.TheVariants as kind
use Rattle.oim_report.specs.declared.kind.PeriodType.{PeriodType}
use Rattle.oim_report.specs.declared.kind.PeriodType.TheVariants as period
use Rattle.oim_report.specs.declared.kind.SimpleType.{SimpleType}
use Rattle.oim_report.specs.declared.kind.SimpleType.TheVariants as simple
use Rattle.oim_report.specs.declared.kind.ValueType.{ValueType}
use Rattle.oim_report.specs.declared.kind.ValueType.TheVariants as value
use Rattle.oim_schema.specs.declared.dates.DateForm.TheVariants as date
use Rattle.oim_schema.specs.declared.integers.IntegerType.TheVariants as integer

-- A set of type names with their kinds.
abbrev pub Words : Type 0
Words = List (List ℕ × Kind)

-- SIMPLE TYPES, by the names of XML Schema part 2, but for QName.
abbrev pub simple_words : List (List ℕ × SimpleType)
simple_words =
    (codes "integer", simple.Number number.Integer)
    ∷ (codes "decimal", simple.Number number.Decimal)
    ∷ (codes "double", simple.Number number.Double)
    ∷ (codes "positiveInteger", simple.Bounded integer.PositiveInteger)
    ∷ (codes "nonNegativeInteger", simple.Bounded integer.NonNegativeInteger)
    ∷ (codes "negativeInteger", simple.Bounded integer.NegativeInteger)
    ∷ (codes "nonPositiveInteger", simple.Bounded integer.NonPositiveInteger)
    ∷ (codes "long", simple.Bounded integer.Long)
    ∷ (codes "int", simple.Bounded integer.Int)
    ∷ (codes "short", simple.Bounded integer.Short)
    ∷ (codes "byte", simple.Bounded integer.Byte)
    ∷ (codes "unsignedLong", simple.Bounded integer.UnsignedLong)
    ∷ (codes "unsignedInt", simple.Bounded integer.UnsignedInt)
    ∷ (codes "unsignedShort", simple.Bounded integer.UnsignedShort)
    ∷ (codes "unsignedByte", simple.Bounded integer.UnsignedByte)
    ∷ (codes "boolean", simple.Boolean)
    ∷ (codes "qname", simple.QName)
    ∷ (codes "date", simple.DateTime date.Date)
    ∷ (codes "dateTime", simple.DateTime date.DateTime)
    ∷ (codes "time", simple.DateTime date.Time)
    ∷ (codes "gYear", simple.DateTime date.GYear)
    ∷ (codes "gYearMonth", simple.DateTime date.GYearMonth)
    ∷ (codes "gMonth", simple.DateTime date.GMonth)
    ∷ (codes "gMonthDay", simple.DateTime date.GMonthDay)
    ∷ (codes "gDay", simple.DateTime date.GDay)
    ∷ (codes "duration", simple.Duration)
    ∷ (codes "language", simple.Language)
    ∷ (codes "NCName", simple.NcName)
    ∷ (codes "hexBinary", simple.HexBinary)
    ∷ []

-- TYPES OF VALUES: six more words.
abbrev pub value_words : List (List ℕ × ValueType)
value_words =
    (codes "monetary", value.Monetary)
    ∷ (codes "shares", value.Shares)
    ∷ (codes "text", value.Text)
    ∷ (codes "enumeration", value.Enumeration)
    ∷ (codes "enumerations", value.Enumerations)
    ∷ (codes "other", value.Other)
    ∷ map (λ e. (e.0, value.Simple e.1)) simple_words

-- A concept of these values, of any period.
abbrev pub concept_of : ValueType → Kind
concept_of v = kind.Concept (record { value = v; period = None })

-- WORDS under `type3`: concepts by the type of their values, dimensions and members.
abbrev pub kind_words : Words
kind_words =
    (codes "explicit", kind.Explicit)
    ∷ (codes "typed", kind.Typed)
    ∷ (codes "member", kind.Member)
    ∷ map (λ e. (e.0, concept_of e.1)) value_words

-- PERIODS of a concept. The empty text is any period.
abbrev pub period_words : List (List ℕ × Option PeriodType)
period_words = ([], None) ∷ (codes "instant", Some period.Instant) ∷ (codes "duration", Some period.Duration) ∷ []

-- VALUES of a typed dimension. The empty text is any text.
abbrev pub typed_words : Words
typed_words = ([], kind.Typed) ∷ map (λ e. (e.0, kind.TypedBy e.1)) simple_words

-- Any other cell is empty.
abbrev pub if_empty : Kind → Field → Option Kind
if_empty k [] = Some k
if_empty k (c ∷ cs) = None

-- The kind of a word with its period, and with its values.
abbrev pub with_period : Kind → Field → Option Kind
with_period (kind.Concept c) cell = option_map (λ p. kind.Concept (record { value = c.value; period = p })) (value_at cell period_words)
with_period k cell = if_empty k cell

abbrev pub with_values : Kind → Field → Option Kind
with_values kind.Typed cell = value_at cell typed_words
with_values k cell = if_empty k cell

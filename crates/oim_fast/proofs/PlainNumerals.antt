-- A numeral needs no escape.
use Rattle.std.proofs.Common.{◌≡◌, ◌<◌, ◌^◌, ℕ, Bool, true, false, List, [], Option, Some, None, Err, refl, sym, arith}
use Rattle.std.specs.Prelude.{if◌then◌else◌}
use Rattle.std.specs.Option.{IfSome}
use Rattle.std.specs.Fmt.{decimal}
use Rattle.std.proofs.lemmas.Fmt.{decimal_is_IsNumeral}
use Rattle.std.specs.List.{list_all}
use Rattle.std.specs.Char.{digit_value}
use Rattle.std.specs.Str.Parse.{AllDigits}
use Rattle.std.proofs.lemmas.Bool.Decides.{nat_tests}
use Rattle.std.proofs.lemmas.Str.Parse.{digit_from_value}
use Rattle.oim_cells.specs.declared.cells.Accuracy.{Accuracy}
use Rattle.oim_cells.specs.declared.cells.NumberKind.{NumberKind}
use Rattle.oim_cells.specs.declared.cells.NumberKind.TheVariants.{Decimal, Integer}
use Rattle.oim_cells.specs.Blanks.{trimmed}
use Rattle.oim_cells.specs.Cells.{Meaning, numeral_of}
use Rattle.oim_cells.specs.Cells as m
use Rattle.oim_cells.specs.Numeral.{IsNumeralOf, IsSplit, bare, suffixed}
use Rattle.oim_cells.proofs.Values.{numeral_law}
use Rattle.oim_json.specs.state.Writing.{is_unescaped}
use Rattle.oim_report.specs.ReportValue.{ReportValue}
use Rattle.oim_report.specs.declared.kind.Kind.{Kind}
use Rattle.oim_report.specs.declared.kind.Kind.TheVariants as kind
use Rattle.oim_report.specs.declared.kind.PeriodType.{PeriodType}
use Rattle.oim_report.specs.declared.kind.SimpleType.TheVariants as simple
use Rattle.oim_report.specs.declared.kind.ValueType.{ValueType}
use Rattle.oim_report.specs.declared.kind.ValueType.TheVariants as item
use Rattle.oim_text.proofs.NumeralBytes.{digits_pass, numeral_passes}
use Rattle.oim_resolve.specs.FactValues.{bounded_given, numeral_given, text_given, text_in, typed_given, value_given}
use Rattle.oim_resolve.specs.declared.fact.CellFault.TheVariants.{BadNumber}
use Rattle.oim_resolve.specs.Facts.{is_numeric}

abbrev IsPlain : List ℕ → Type 0
IsPlain s = list_all is_unescaped s ≡ true

plain_digit : (c : ℕ) → digit_value c < 10 → is_unescaped c ≡ true
plain_digit c h = let r = digit_from_value c h in grind (arith, nat_tests)

plain_digits : (s : List ℕ) → AllDigits 10 s → IsPlain s
plain_digits s h = digits_pass is_unescaped plain_digit refl refl refl refl refl s h

plain_numeral : (kind : NumberKind) (s : List ℕ) → IsNumeralOf kind s → IsPlain s
plain_numeral kind s h = numeral_passes is_unescaped plain_digit refl refl refl refl refl kind s h

plain_split : (kind : NumberKind) (s v : List ℕ) (a : Option Accuracy) → IsSplit kind s v a → IsPlain v
plain_split k s v a (suffixed kind numeral decimals accuracy n d) = plain_numeral kind numeral n
plain_split k s v a (bare kind numeral n) = plain_numeral kind numeral n

-- The numeral in a text needs no escape.
pub numeral_is_plain : (kind : NumberKind) (text v : List ℕ) (a : Option Accuracy) → Some (v, a) ≡ numeral_of kind text → list_all is_unescaped v ≡ true
numeral_is_plain kind text v a e = plain_split kind (trimmed text) v a ((numeral_law kind text v a).0 (sym e))

part_is_plain : (o : Option (List ℕ × Option Accuracy)) → ((v : List ℕ) (a : Option Accuracy) → Some (v, a) ≡ o → IsPlain v) → IfSome (text_in (numeral_given o)) IsPlain
part_is_plain None h = tt
part_is_plain (Some p) h = h p.0 p.1 refl

within_is_plain : (within : Bool) (p : List ℕ × Option Accuracy) → IsPlain p.0 → IfSome (text_in (if within then numeral_given (Some p) else Err BadNumber)) IsPlain
within_is_plain true p h = h
within_is_plain false p h = tt

typed_is_plain : (r : ReportValue) (y : ValueType) (q : Option PeriodType) (t : List ℕ) → is_numeric (kind.Concept (record { value = y; period = q })) ≡ true → IfSome (text_in (typed_given r y t)) IsPlain
typed_is_plain r (item.Simple (simple.Number n)) q t h = part_is_plain (numeral_of n t) (numeral_is_plain n t)
typed_is_plain r (item.Simple (simple.Bounded b)) q t h = by (numeral_of Integer t) (numeral_is_plain Integer t)
  where
    by : (o : Option (List ℕ × Option Accuracy)) → ((v : List ℕ) (a : Option Accuracy) → Some (v, a) ≡ o → IsPlain v) → IfSome (text_in (bounded_given b o)) IsPlain
    by None is = tt
    by (Some p) is = within_is_plain _ p (is p.0 p.1 refl)
typed_is_plain r (item.Simple simple.Boolean) q t h = absurd (cc)
typed_is_plain r (item.Simple simple.QName) q t h = absurd (cc)
typed_is_plain r (item.Simple (simple.DateTime f)) q t h = absurd (cc)
typed_is_plain r (item.Simple simple.Duration) q t h = absurd (cc)
typed_is_plain r (item.Simple simple.Language) q t h = absurd (cc)
typed_is_plain r (item.Simple simple.NcName) q t h = absurd (cc)
typed_is_plain r (item.Simple simple.HexBinary) q t h = absurd (cc)
typed_is_plain r item.Monetary q t h = part_is_plain (numeral_of Decimal t) (numeral_is_plain Decimal t)
typed_is_plain r item.Shares q t h = part_is_plain (numeral_of Decimal t) (numeral_is_plain Decimal t)
typed_is_plain r item.Text q t h = absurd (cc)
typed_is_plain r item.Enumeration q t h = absurd (cc)
typed_is_plain r item.Enumerations q t h = absurd (cc)
typed_is_plain r item.Other q t h = absurd (cc)

text_is_plain : (r : ReportValue) (k : Kind) (t : List ℕ) → is_numeric k ≡ true → IfSome (text_in (text_given r k t)) IsPlain
text_is_plain r (kind.Number n) t h = part_is_plain (numeral_of n t) (numeral_is_plain n t)
text_is_plain r kind.Text t h = absurd (cc)
text_is_plain r kind.Boolean t h = absurd (cc)
text_is_plain r kind.Date t h = absurd (cc)
text_is_plain r kind.Name t h = absurd (cc)
text_is_plain r kind.Other t h = absurd (cc)
text_is_plain r kind.Explicit t h = absurd (cc)
text_is_plain r kind.Typed t h = absurd (cc)
text_is_plain r (kind.TypedBy s) t h = absurd (cc)
text_is_plain r kind.Member t h = absurd (cc)
text_is_plain r (kind.Concept a) t h = typed_is_plain r a.value a.period t h

-- What the cell of a number gives needs no escape.
pub given_is_plain : (r : ReportValue) (k : Kind) (v : Meaning) → is_numeric k ≡ true → IfSome (text_in (value_given r k v)) (λ t. list_all is_unescaped t ≡ true)
given_is_plain r k m.Absent h = tt
given_is_plain r k m.Nil h = tt
given_is_plain r k m.Empty h = text_is_plain r k [] h
given_is_plain r k (m.Text t) h = text_is_plain r k t h
given_is_plain r k m.Unknown h = tt

-- A number in digits needs no escape.
pub decimal_is_plain : (n : ℕ) → n < 2 ^ 64 → list_all is_unescaped (decimal n) ≡ true
decimal_is_plain n h = plain_digits (decimal n) (decimal_is_IsNumeral n h).0.1

-- A cell whose value has no fault states the accuracy that its suffix does.
use Rattle.std.proofs.Common.{◌≡◌, ℕ, List, [], Bool, true, false, Option, Some, None, Result, Ok, Err, if◌then◌else◌, refl, ap, ◌∙◌}
use Rattle.std.specs.Prelude.{is_some}
use Rattle.oim_names.specs.QName.{qname_of}
use Rattle.oim_cells.specs.Blanks.{trimmed}
use Rattle.oim_cells.specs.Cells.{Meaning, numeral_of}
use Rattle.oim_cells.specs.Cells as m
use Rattle.oim_cells.specs.declared.cells.Accuracy.{Accuracy}
use Rattle.oim_cells.specs.declared.cells.NumberKind.TheVariants.{Integer, Decimal}
use Rattle.oim_report.specs.ReportValue.{ReportValue}
use Rattle.oim_report.specs.declared.kind.Kind.{Kind}
use Rattle.oim_report.specs.declared.kind.Kind.TheVariants as kind
use Rattle.oim_report.specs.declared.kind.SimpleType.{SimpleType}
use Rattle.oim_report.specs.declared.kind.SimpleType.TheVariants as simple
use Rattle.oim_report.specs.declared.kind.ValueType.{ValueType}
use Rattle.oim_report.specs.declared.kind.ValueType.TheVariants as item
use Rattle.oim_schema.specs.Integers.{is_bounded_integer}
use Rattle.oim_schema.specs.declared.integers.IntegerType.{IntegerType}
use Rattle.oim_resolve.specs.FactValues.{ValueParts, plain, numeral_given, bounded_given, simple_given, in_form, member_given, set_given, set_read, typed_given, text_given, value_given}
use Rattle.oim_resolve.specs.FactValues.{suffix_in, text_suffix, suffix_given}
use Rattle.oim_resolve.specs.Kinds.{is_known_member, numbers_of}
use Rattle.oim_resolve.specs.declared.fact.CellFault.{CellFault}
use Rattle.oim_resolve.specs.declared.fact.CellFault.TheVariants.{BadFactValue, BadNumber, UnknownMember}

abbrev accuracy_or : Option Accuracy → Result ValueParts CellFault → Option Accuracy
accuracy_or a (Ok v) = v.accuracy
accuracy_or a (Err f) = a

-- What a value without fault states, if it is known what each value states.
stated : (a : Option Accuracy) (r : Result ValueParts CellFault) (p : ValueParts) → a ≡ accuracy_or a r → r ≡ Ok p → a ≡ p.accuracy
stated a r p same is = same ∙ ap (accuracy_or a) is

of_numeral : (o : Option (List ℕ × Option Accuracy)) → suffix_in o ≡ accuracy_or (suffix_in o) (numeral_given o)
of_numeral (Some q) = refl
of_numeral None = refl

of_bounded : (b : IntegerType) (o : Option (List ℕ × Option Accuracy)) → suffix_in o ≡ accuracy_or (suffix_in o) (bounded_given b o)
of_bounded b (Some q) = by (is_bounded_integer b q.0)
  where
    by : (x : Bool) → q.1 ≡ accuracy_or q.1 (if x then numeral_given (Some q) else Err BadNumber)
    by true = refl
    by false = refl
of_bounded b None = refl

of_form : (x : Bool) (t : List ℕ) → None ≡ accuracy_or None (in_form x t)
of_form true t = refl
of_form false t = refl

of_member : (r : ReportValue) (t : List ℕ) → None ≡ accuracy_or None (member_given r t)
of_member r t = by (is_some (qname_of r.namespaces t)) (is_known_member r t)
  where
    by : (x y : Bool) → None ≡ accuracy_or None (if x then (if y then Ok (plain t) else Err UnknownMember) else Err BadFactValue)
    by true true = refl
    by true false = refl
    by false y = refl

of_set : (r : Result (List ℕ) CellFault) → None ≡ accuracy_or None (set_given r)
of_set (Ok t) = refl
of_set (Err f) = refl

of_simple : (r : ReportValue) (s : SimpleType) (t : List ℕ) → (let a = text_suffix (numbers_of (kind.Concept (record { value = item.Simple s; period = None }))) t in a ≡ accuracy_or a (simple_given r s t))
of_simple r (simple.Number n) t = of_numeral (numeral_of n t)
of_simple r (simple.Bounded b) t = of_bounded b (numeral_of Integer t)
of_simple r simple.Boolean t = of_form _ (trimmed t)
of_simple r simple.QName t = of_form _ (trimmed t)
of_simple r (simple.DateTime f) t = of_form _ (trimmed t)
of_simple r simple.Duration t = of_form _ (trimmed t)
of_simple r simple.Language t = of_form _ (trimmed t)
of_simple r simple.NcName t = of_form _ (trimmed t)
of_simple r simple.HexBinary t = of_form _ (trimmed t)

of_type : (r : ReportValue) (v : ValueType) (t : List ℕ) → (let a = text_suffix (numbers_of (kind.Concept (record { value = v; period = None }))) t in a ≡ accuracy_or a (typed_given r v t))
of_type r (item.Simple s) t = of_simple r s t
of_type r item.Monetary t = of_numeral (numeral_of Decimal t)
of_type r item.Shares t = of_numeral (numeral_of Decimal t)
of_type r item.Text t = refl
of_type r item.Enumeration t = of_member r (trimmed t)
of_type r item.Enumerations t = of_set (set_read r t)
of_type r item.Other t = refl

of_text : (r : ReportValue) (k : Kind) (t : List ℕ) → text_suffix (numbers_of k) t ≡ accuracy_or (text_suffix (numbers_of k) t) (text_given r k t)
of_text r (kind.Number n) t = of_numeral (numeral_of n t)
of_text r kind.Text t = refl
of_text r kind.Boolean t = of_form _ (trimmed t)
of_text r kind.Date t = of_form _ (trimmed t)
of_text r kind.Name t = of_form _ (trimmed t)
of_text r kind.Other t = refl
of_text r kind.Explicit t = refl
of_text r kind.Typed t = refl
of_text r (kind.Concept a) t = of_type r a.value t
of_text r (kind.TypedBy s) t = refl
of_text r kind.Member t = refl

of_meaning : (r : ReportValue) (k : Kind) (v : Meaning) → suffix_given k v ≡ accuracy_or (suffix_given k v) (value_given r k v)
of_meaning r k m.Absent = refl
of_meaning r k m.Nil = refl
of_meaning r k m.Empty = of_text r k []
of_meaning r k (m.Text t) = of_text r k t
of_meaning r k m.Unknown = refl

pub suffix_stated : (r : ReportValue) (k : Kind) (v : Meaning) (p : ValueParts) → value_given r k v ≡ Ok p → suffix_given k v ≡ p.accuracy
suffix_stated r k v p is = stated (suffix_given k v) (value_given r k v) p (of_meaning r k v) is

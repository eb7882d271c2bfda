-- How the cells of a concept's facts are read.
use Rattle.std.proofs.Common.{◌≡◌, ℕ, List, Option, Ok, refl, ap, ◌∙◌}
use Rattle.oim_cells.specs.Cells.{numeral_of}
use Rattle.oim_cells.specs.declared.cells.NumberKind.{NumberKind}
use Rattle.oim_cells.specs.declared.cells.NumberKind.TheVariants.{Decimal}
use Rattle.oim_report.specs.ReportValue.{ReportValue}
use Rattle.oim_report.specs.declared.kind.Concept.{Concept}
use Rattle.oim_report.specs.declared.kind.Kind.{Kind}
use Rattle.oim_report.specs.declared.kind.Kind.TheVariants as kind
use Rattle.oim_report.specs.declared.kind.PeriodType.{PeriodType}
use Rattle.oim_report.specs.declared.kind.SimpleType.TheVariants as simple
use Rattle.oim_report.specs.declared.kind.ValueType.{ValueType}
use Rattle.oim_report.specs.declared.kind.ValueType.TheVariants as item
use Rattle.oim_resolve.specs.FactValues.{numeral_given, plain, text_given, typed_given}
use Rattle.oim_resolve.specs.Facts.{is_numeric}
use Rattle.oim_fast.specs.state.ValueForms.{form_of, is_number_form, typed_form}
use Rattle.oim_fast.specs.declared.frame.value_form.ValueForm.{ValueForm}
use Rattle.oim_fast.specs.declared.frame.value_form.ValueForm.TheVariants as form

-- DECIMALS

typed_number : (y : ValueType) (q : Option PeriodType) → is_number_form (typed_form y) ≡ is_numeric (kind.Concept (record { value = y; period = q }))
typed_number (item.Simple (simple.Number n)) q = refl
typed_number (item.Simple (simple.Bounded b)) q = refl
typed_number (item.Simple simple.Boolean) q = refl
typed_number (item.Simple simple.QName) q = refl
typed_number (item.Simple (simple.DateTime f)) q = refl
typed_number (item.Simple simple.Duration) q = refl
typed_number (item.Simple simple.Language) q = refl
typed_number (item.Simple simple.NcName) q = refl
typed_number (item.Simple simple.HexBinary) q = refl
typed_number item.Monetary q = refl
typed_number item.Shares q = refl
typed_number item.Text q = refl
typed_number item.Enumeration q = refl
typed_number item.Enumerations q = refl
typed_number item.Other q = refl

-- Facts of numeric concepts have decimals.
pub number_form : (k : Kind) → is_number_form (form_of k) ≡ is_numeric k
number_form (kind.Number n) = refl
number_form kind.Text = refl
number_form kind.Boolean = refl
number_form kind.Date = refl
number_form kind.Name = refl
number_form kind.Other = refl
number_form kind.Explicit = refl
number_form kind.Typed = refl
number_form (kind.Concept a) = typed_number a.value a.period
number_form (kind.TypedBy s) = refl
number_form kind.Member = refl

pub form_number : (k : Kind) (by : ValueForm) → by ≡ form_of k → is_number_form by ≡ is_numeric k
form_number k by e = ap is_number_form e ∙ number_form k

-- NUMERALS

typed_numeral : (r : ReportValue) (y : ValueType) (n : NumberKind) (t : List ℕ) → typed_form y ≡ form.Number n → typed_given r y t ≡ numeral_given (numeral_of n t)
typed_numeral r (item.Simple (simple.Number m)) n t e = let is : m ≡ n = cc e in ap (λ q. numeral_given (numeral_of q t)) is
typed_numeral r (item.Simple (simple.Bounded b)) n t e = absurd (cc e)
typed_numeral r (item.Simple simple.Boolean) n t e = absurd (cc e)
typed_numeral r (item.Simple simple.QName) n t e = absurd (cc e)
typed_numeral r (item.Simple (simple.DateTime f)) n t e = absurd (cc e)
typed_numeral r (item.Simple simple.Duration) n t e = absurd (cc e)
typed_numeral r (item.Simple simple.Language) n t e = absurd (cc e)
typed_numeral r (item.Simple simple.NcName) n t e = absurd (cc e)
typed_numeral r (item.Simple simple.HexBinary) n t e = absurd (cc e)
typed_numeral r item.Monetary n t e = let is : Decimal ≡ n = cc e in ap (λ q. numeral_given (numeral_of q t)) is
typed_numeral r item.Shares n t e = let is : Decimal ≡ n = cc e in ap (λ q. numeral_given (numeral_of q t)) is
typed_numeral r item.Text n t e = absurd (cc e)
typed_numeral r item.Enumeration n t e = absurd (cc e)
typed_numeral r item.Enumerations n t e = absurd (cc e)
typed_numeral r item.Other n t e = absurd (cc e)

-- A text that is read as a numeral.
pub form_numeral : (r : ReportValue) (k : Kind) (n : NumberKind) (t : List ℕ) → form_of k ≡ form.Number n → text_given r k t ≡ numeral_given (numeral_of n t)
form_numeral r (kind.Number m) n t e = let is : m ≡ n = cc e in ap (λ q. numeral_given (numeral_of q t)) is
form_numeral r kind.Text n t e = absurd (cc e)
form_numeral r kind.Boolean n t e = absurd (cc e)
form_numeral r kind.Date n t e = absurd (cc e)
form_numeral r kind.Name n t e = absurd (cc e)
form_numeral r kind.Other n t e = absurd (cc e)
form_numeral r kind.Explicit n t e = absurd (cc e)
form_numeral r kind.Typed n t e = absurd (cc e)
form_numeral r (kind.Concept a) n t e = typed_numeral r a.value n t e
form_numeral r (kind.TypedBy s) n t e = absurd (cc e)
form_numeral r kind.Member n t e = absurd (cc e)

-- TEXTS AS THEY ARE WRITTEN

typed_plain : (r : ReportValue) (y : ValueType) (t : List ℕ) → typed_form y ≡ form.Text → typed_given r y t ≡ Ok (plain t)
typed_plain r (item.Simple (simple.Number m)) t e = absurd (cc e)
typed_plain r (item.Simple (simple.Bounded b)) t e = absurd (cc e)
typed_plain r (item.Simple simple.Boolean) t e = absurd (cc e)
typed_plain r (item.Simple simple.QName) t e = absurd (cc e)
typed_plain r (item.Simple (simple.DateTime f)) t e = absurd (cc e)
typed_plain r (item.Simple simple.Duration) t e = absurd (cc e)
typed_plain r (item.Simple simple.Language) t e = absurd (cc e)
typed_plain r (item.Simple simple.NcName) t e = absurd (cc e)
typed_plain r (item.Simple simple.HexBinary) t e = absurd (cc e)
typed_plain r item.Monetary t e = absurd (cc e)
typed_plain r item.Shares t e = absurd (cc e)
typed_plain r item.Text t e = refl
typed_plain r item.Enumeration t e = absurd (cc e)
typed_plain r item.Enumerations t e = absurd (cc e)
typed_plain r item.Other t e = refl

pub form_plain : (r : ReportValue) (k : Kind) (t : List ℕ) → form_of k ≡ form.Text → text_given r k t ≡ Ok (plain t)
form_plain r (kind.Number m) t e = absurd (cc e)
form_plain r kind.Text t e = refl
form_plain r kind.Boolean t e = absurd (cc e)
form_plain r kind.Date t e = absurd (cc e)
form_plain r kind.Name t e = absurd (cc e)
form_plain r kind.Other t e = refl
form_plain r kind.Explicit t e = absurd (cc e)
form_plain r kind.Typed t e = absurd (cc e)
form_plain r (kind.Concept a) t e = typed_plain r a.value t e
form_plain r (kind.TypedBy s) t e = absurd (cc e)
form_plain r kind.Member t e = absurd (cc e)

-- TYPES

pub same_concept : (a b : Concept) → a.value ≡ b.value → a.period ≡ b.period → a ≡ b
same_concept a b p q =
    let first : a ≡ record { value = b.value; period = a.period } = ap (λ (v : ValueType). record a { value = v }) p in
    first ∙ ap (λ (o : Option PeriodType). record b { period = o }) q

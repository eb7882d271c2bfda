-- What the cell of a fact gives, by the kind of its concept.
use Rattle.std.proofs.Common.{◌≡◌, ◌<◌, ◌≤◌, ℕ, zero, suc, Bool, true, false, inl, inr, List, [], ◌∷◌, ◌++◌, length, take, get_or, Option, Some, None, IfSome, Result, Ok, Err, codes, is_none, refl, sym, ap, subst, ◌∙◌, arith, take-take, length-take-le, length-append}
use Rattle.std.specs.Prelude.{if◌then◌else◌}
use Rattle.std.specs.Char.{digit_value}
use Rattle.std.specs.Str.Parse.{without_leading_sign}
use Rattle.oim_cells.specs.Blanks.{trimmed}
use Rattle.oim_cells.specs.Cells.{Meaning, meaning_of, numeral_of}
use Rattle.oim_cells.specs.Cells as m
use Rattle.oim_cells.specs.Numeral.{IsDecimal, IsDouble, IsNumeralOf, IsPointed, IsSplit, bare, no_power, pointed, power, suffixed}
use Rattle.oim_cells.specs.declared.cells.Accuracy.{Accuracy}
use Rattle.oim_cells.specs.declared.cells.NumberKind.{NumberKind}
use Rattle.oim_cells.specs.declared.cells.NumberKind.TheVariants.{Integer, Decimal, Double}
use Rattle.oim_cells.proofs.Meanings.{meaning_law}
use Rattle.oim_cells.proofs.Values.{numeral_law}
use Rattle.oim_report.specs.ReportValue.{ReportValue}
use Rattle.oim_report.specs.declared.kind.Kind.{Kind}
use Rattle.oim_report.specs.declared.kind.Kind.TheVariants as kind
use Rattle.oim_report.specs.declared.kind.SimpleType.{SimpleType}
use Rattle.oim_report.specs.declared.kind.SimpleType.TheVariants as simple
use Rattle.oim_report.specs.declared.kind.ValueType.{ValueType}
use Rattle.oim_report.specs.declared.kind.ValueType.TheVariants as item
use Rattle.oim_resolve.specs.FactValues.{ValueParts, bounded_given, in_form, numeral_given, plain, set_given, set_read, simple_given, text_given, typed_given, value_given}
use Rattle.oim_resolve.specs.declared.fact.CellFault.{CellFault}
use Rattle.oim_resolve.specs.declared.fact.CellFault.TheVariants.{BadFactValue, BadNumber, UnknownMember}
use Rattle.oim_resolve.specs.Facts.{is_absent, is_nil, is_unknown}
use Rattle.oim_fast.specs.state.CellValues.{IsValue}
use Rattle.oim_fast.specs.declared.frame.value.Value.{Value}
use Rattle.oim_fast.specs.state.ValueForms.{form_of}
use Rattle.oim_fast.specs.declared.frame.value_form.ValueForm.{ValueForm}
use Rattle.oim_fast.specs.declared.frame.value_form.ValueForm.TheVariants as form
use Rattle.oim_fast.proofs.ValueFormLaws.{form_numeral}
use Rattle.oim_row.proofs.Texts.{plain_meaning}

-- A NUMERAL DOES NOT BEGIN WITH `#`

hash_digit : (c : ℕ) → c ≡ 35 → digit_value c < 10 → ⊥
hash_digit c e h = let bad : digit_value 35 < 10 = subst (λ k. digit_value k < 10) e h in absurd (omega (arith, bad))

hash_pointed : (s cs : List ℕ) → IsPointed s → s ≡ 35 ∷ cs → ⊥
hash_pointed s cs (pointed [] after p q some) e = let bad : 46 ≡ 35 = ap (λ l. get_or l 0 0) e in absurd (omega (arith, bad))
hash_pointed s cs (pointed (b ∷ before) after p q some) e = hash_digit b (ap (λ l. get_or l 0 0) e) p.0

hash_decimal : (cs : List ℕ) → IsDecimal (35 ∷ cs) → ⊥
hash_decimal cs (inl i) = hash_digit 35 refl i.1.0
hash_decimal cs (inr p) = hash_pointed (without_leading_sign (35 ∷ cs)) cs p refl

no_decimal : IsDecimal [] → ⊥
no_decimal (inl i) = absurd (omega (arith, i.0))
no_decimal (inr p) = no_point [] p refl
  where
    no_point : (s : List ℕ) → IsPointed s → s ≡ [] → ⊥
    no_point s (pointed before after p q some) e = absurd (omega (arith, ap length e, length-append (before ++ codes ".") after, length-append before (codes ".")))

hash_double : (s cs : List ℕ) → IsDouble s → s ≡ 35 ∷ cs → ⊥
hash_double s cs (no_power t d) e = hash_decimal cs (subst IsDecimal e d)
hash_double s cs (power [] mark back d m i) e = no_decimal d
hash_double s cs (power (b ∷ front) mark back d m i) e =
    let is : b ≡ 35 = ap (λ l. get_or l 0 0) e in
    hash_decimal front (subst (λ k. IsDecimal (k ∷ front)) is d)

no_double : (s : List ℕ) → IsDouble s → s ≡ [] → ⊥
no_double s (no_power t d) e = no_decimal (subst IsDecimal e d)
no_double s (power front mark back d (inl e) i) is = absurd (omega (arith, ap length is, ap length e, length-append (front ++ mark) back, length-append front mark))
no_double s (power front mark back d (inr e) i) is = absurd (omega (arith, ap length is, ap length e, length-append (front ++ mark) back, length-append front mark))

hash_numeral : (kind : NumberKind) (cs : List ℕ) → IsNumeralOf kind (35 ∷ cs) → ⊥
hash_numeral Integer cs h = hash_digit 35 refl h.1.0
hash_numeral Decimal cs h = hash_decimal cs h
hash_numeral Double cs h = hash_double (35 ∷ cs) cs h refl

no_numeral : (kind : NumberKind) → IsNumeralOf kind [] → ⊥
no_numeral Integer h = absurd (omega (arith, h.0))
no_numeral Decimal h = no_decimal h
no_numeral Double h = no_double [] h refl

-- A text begins with another byte than `#`.
record BeginsPlain (s : List ℕ) : Type 0 where
  some : 0 < length s
  other : get_or s 0 0 ≡ 35 → ⊥

numeral_begins : (kind : NumberKind) (s : List ℕ) → IsNumeralOf kind s → BeginsPlain s
numeral_begins kind [] h = absurd (no_numeral kind h)
numeral_begins kind (c ∷ cs) h = record { some = omega arith; other = λ e. hash_numeral kind cs (subst (λ k. IsNumeralOf kind (k ∷ cs)) e h) }

front_begins : (s : List ℕ) (n : ℕ) → BeginsPlain (take n s) → BeginsPlain s
front_begins [] zero h = h
front_begins [] (suc n) h = h
front_begins (c ∷ cs) zero h = absurd (omega (arith, h.some))
front_begins (c ∷ cs) (suc n) h = record { some = omega arith; other = h.other }

begins_meaning : (s : List ℕ) → BeginsPlain s → meaning_of s ≡ m.Text s
begins_meaning s h = plain_meaning s 0 h.some h.other

split_numeral : (kind : NumberKind) (s v : List ℕ) (a : Option Accuracy) → IsSplit kind s v a → IsNumeralOf kind v
split_numeral k s v a (suffixed kind numeral decimals accuracy n d) = n
split_numeral k s v a (bare kind numeral n) = n

-- TEXTS AS THEY ARE WRITTEN

-- The value of a text as it is written.
text_value : (r : ReportValue) (k : Kind) (cell : List ℕ) (x : Value) → BeginsPlain cell → x.len ≤ length x.bytes.now → x.is_nil ≡ false
    → text_given r k cell ≡ Ok (record { text = Some (take x.len x.bytes.now); accuracy = x.accuracy }) → IsValue r k (meaning_of cell) x
text_value r k cell x begins within some given =
    let is = begins_meaning cell begins in
    record {
      within = within;
      said = ap is_absent is;
      known = ap is_unknown is;
      given = ap (value_given r k) is ∙ given ∙ ap (λ b. Ok (record { text = if b then None else Some (take x.len x.bytes.now); accuracy = x.accuracy })) (sym some);
      nil = some ∙ sym (ap is_nil is);
    }

-- A number's cell that is split.
pub number_value : (r : ReportValue) (k : Kind) (n : NumberKind) (cell : List ℕ) (x : Value) → form_of k ≡ form.Number n → take (length cell) x.bytes.now ≡ cell → length cell ≤ length x.bytes.now → x.is_nil ≡ false
    → x.len ≤ length cell → IsSplit n (trimmed cell) (take x.len cell) x.accuracy → IsValue r k (meaning_of cell) x
number_value r k n cell x read same within some few split =
    let front : take x.len x.bytes.now ≡ take x.len cell = sym (take-take x.len (length cell) x.bytes.now few) ∙ ap (take x.len) same in
    text_value r k cell x (front_begins cell x.len (numeral_begins n (take x.len cell) (split_numeral n (trimmed cell) (take x.len cell) x.accuracy split)))
    (omega (arith, within, few)) some
    (form_numeral r k n cell read ∙ ap numeral_given ((numeral_law n cell (take x.len cell) x.accuracy).1 split) ∙ ap (λ t. Ok (record { text = Some t; accuracy = x.accuracy })) (sym front))

-- The cell of a text as it is written.
pub plain_value : (r : ReportValue) (k : Kind) (cell : List ℕ) (x : Value) → take x.len x.bytes.now ≡ cell → x.len ≤ length x.bytes.now → x.is_nil ≡ false → x.accuracy ≡ None
    → 0 < x.len → (get_or x.bytes.now 0 0 ≡ 35 → ⊥) → ((t : List ℕ) → text_given r k t ≡ Ok (plain t)) → IsValue r k (meaning_of cell) x
plain_value r k cell x same within some exact long other given =
    let long_front : 0 < length (take x.len x.bytes.now) = omega (arith, length-take-le x.len x.bytes.now within) in
    let begins : BeginsPlain (take x.len x.bytes.now) = record { some = long_front; other = λ e. other (sym (first x.bytes.now x.len long_front) ∙ e) } in
    text_value r k cell x (subst BeginsPlain same begins) within some
    (given cell ∙ ap (λ t. Ok (record { text = Some t; accuracy = None })) (sym same) ∙ ap (λ a. Ok (record { text = Some (take x.len x.bytes.now); accuracy = a })) (sym exact))
  where
    first : (s : List ℕ) (n : ℕ) → 0 < length (take n s) → get_or (take n s) 0 0 ≡ get_or s 0 0
    first [] zero h = absurd (omega arith)
    first [] (suc n) h = absurd (omega arith)
    first (c ∷ cs) zero h = absurd (omega arith)
    first (c ∷ cs) (suc n) h = refl

-- RARE FORMS

form_some : (b : Bool) (t : List ℕ) (p : ValueParts) → in_form b t ≡ Ok p → is_none p.text ≡ false
form_some true t p e = let is : plain t ≡ p = cc e in ap (λ (q : ValueParts). is_none q.text) (sym is)
form_some false t p e = absurd (cc e)

numeral_some : (o : Option (List ℕ × Option Accuracy)) (p : ValueParts) → numeral_given o ≡ Ok p → is_none p.text ≡ false
numeral_some (Some q) p e = let is : (record { text = Some q.0; accuracy = q.1 }) ≡ p = cc e in ap (λ (q : ValueParts). is_none q.text) (sym is)
numeral_some None p e = absurd (cc e)

bounded_some : (within : Bool) (q : List ℕ × Option Accuracy) (p : ValueParts) → (if within then numeral_given (Some q) else Err BadNumber) ≡ Ok p → is_none p.text ≡ false
bounded_some true q p e = numeral_some (Some q) p e
bounded_some false q p e = absurd (cc e)

simple_some : (r : ReportValue) (s : SimpleType) (t : List ℕ) (p : ValueParts) → simple_given r s t ≡ Ok p → is_none p.text ≡ false
simple_some r (simple.Number n) t p e = numeral_some (numeral_of n t) p e
simple_some r (simple.Bounded b) t p e = by (numeral_of Integer t) e
  where
    by : (o : Option (List ℕ × Option Accuracy)) → bounded_given b o ≡ Ok p → is_none p.text ≡ false
    by None is = absurd (cc is)
    by (Some q) is = bounded_some _ q p is
simple_some r simple.Boolean t p e = form_some _ (trimmed t) p e
simple_some r simple.QName t p e = form_some _ (trimmed t) p e
simple_some r (simple.DateTime f) t p e = form_some _ (trimmed t) p e
simple_some r simple.Duration t p e = form_some _ (trimmed t) p e
simple_some r simple.Language t p e = form_some _ (trimmed t) p e
simple_some r simple.NcName t p e = form_some _ (trimmed t) p e
simple_some r simple.HexBinary t p e = form_some _ (trimmed t) p e

member_some : (named known : Bool) (t : List ℕ) (p : ValueParts) → (if named then (if known then Ok (plain t) else Err UnknownMember) else Err BadFactValue) ≡ Ok p → is_none p.text ≡ false
member_some true true t p e = form_some true t p e
member_some true false t p e = absurd (cc e)
member_some false known t p e = absurd (cc e)

set_some : (o : Result (List ℕ) CellFault) (p : ValueParts) → set_given o ≡ Ok p → is_none p.text ≡ false
set_some (Ok t) p e = form_some true t p e
set_some (Err f) p e = absurd (cc e)

typed_some : (r : ReportValue) (y : ValueType) (t : List ℕ) (p : ValueParts) → typed_given r y t ≡ Ok p → is_none p.text ≡ false
typed_some r (item.Simple s) t p e = simple_some r s t p e
typed_some r item.Monetary t p e = numeral_some (numeral_of Decimal t) p e
typed_some r item.Shares t p e = numeral_some (numeral_of Decimal t) p e
typed_some r item.Text t p e = form_some true t p e
typed_some r item.Enumeration t p e = member_some _ _ (trimmed t) p e
typed_some r item.Enumerations t p e = set_some (set_read r t) p e
typed_some r item.Other t p e = form_some true t p e

text_some : (r : ReportValue) (k : Kind) (t : List ℕ) (p : ValueParts) → text_given r k t ≡ Ok p → is_none p.text ≡ false
text_some r (kind.Number n) t p e = numeral_some (numeral_of n t) p e
text_some r kind.Boolean t p e = form_some _ (trimmed t) p e
text_some r kind.Date t p e = form_some _ (trimmed t) p e
text_some r kind.Name t p e = form_some _ (trimmed t) p e
text_some r kind.Text t p e = form_some true t p e
text_some r kind.Other t p e = form_some true t p e
text_some r kind.Explicit t p e = form_some true t p e
text_some r kind.Typed t p e = form_some true t p e
text_some r (kind.TypedBy s) t p e = form_some true t p e
text_some r kind.Member t p e = form_some true t p e
text_some r (kind.Concept a) t p e = typed_some r a.value t p e

-- A cell with a known meaning is nil if its value has no text.
nil_where : (r : ReportValue) (k : Kind) (v : Meaning) (p : ValueParts) → is_absent v ≡ false → is_unknown v ≡ false → value_given r k v ≡ Ok p → is_none p.text ≡ is_nil v
nil_where r k m.Absent p said known e = absurd (cc said)
nil_where r k m.Unknown p said known e = absurd (cc known)
nil_where r k m.Nil p said known e = let is : (record { text = None; accuracy = None }) ≡ p = cc e in ap (λ (q : ValueParts). is_none q.text) (sym is)
nil_where r k m.Empty p said known e = text_some r k [] p e
nil_where r k (m.Text t) p said known e = text_some r k t p e

-- A value that was read is the text's, nil or not.
pub taken_value : (r : ReportValue) (k : Kind) (v : Meaning) (x : Value) → value_given r k v ≡ Ok (record { text = if x.is_nil then None else Some (take x.len x.bytes.now); accuracy = x.accuracy })
    → is_absent v ≡ false → is_unknown v ≡ false → x.len ≤ length x.bytes.now → IsValue r k v x
taken_value r k v x given said known within = record {
  within = within;
  said = said;
  known = known;
  given = given;
  nil = nil_or x.is_nil (take x.len x.bytes.now) ∙ nil_where r k v _ said known given;
}
  where
    nil_or : (b : Bool) (t : List ℕ) → b ≡ is_none (if b then None else Some t)
    nil_or true t = refl
    nil_or false t = refl

-- A number's cell that is split, if the bytes begin with it.
pub number_found : (r : ReportValue) (k : Kind) (n : NumberKind) (cell bytes : List ℕ) (len : ℕ) (x : Value) → form_of k ≡ form.Number n → take len bytes ≡ cell → len ≤ length bytes → x.bytes.now ≡ bytes → x.is_nil ≡ false
    → x.len ≤ len → (take (length cell) bytes ≡ cell → length cell ≡ len → IsSplit n (trimmed cell) (take x.len cell) x.accuracy) → IsValue r k (meaning_of cell) x
number_found r k n cell bytes len x read same within is some few split =
    let long : length cell ≡ len = ap length (sym same) ∙ length-take-le len bytes within in
    let whole : take (length cell) bytes ≡ cell = ap (λ k. take k bytes) long ∙ same in
    number_value r k n cell x read (ap (take (length cell)) is ∙ whole) (omega (arith, long, within, ap length is)) some (omega (arith, long, few)) (split whole long)

-- The cell `#nil`.
pub nil_value : (r : ReportValue) (k : Kind) (x : Value) → x.is_nil ≡ true → x.accuracy ≡ None → x.len ≡ 0 → IsValue r k (meaning_of (codes "#nil")) x
nil_value r k x some exact none =
    let is : m.Nil ≡ meaning_of (codes "#nil") = meaning_law m.nil in
    subst (λ v. IsValue r k v x) is (record {
      within = omega arith;
      said = refl;
      known = refl;
      given = ap (λ b. Ok (record { text = if b then None else Some (take x.len x.bytes.now); accuracy = None })) (sym some)
          ∙ ap (λ a. Ok (record { text = if x.is_nil then None else Some (take x.len x.bytes.now); accuracy = a })) (sym exact);
      nil = some;
    })

-- A number that was found, for each kind that is read so.
pub number_there : (r : ReportValue) (v : Meaning) (by : ValueForm) (n : NumberKind) (o : Option Value) → by ≡ form.Number n
    → IfSome o (λ x. (q : ReportValue) (k : Kind) → form_of k ≡ form.Number n → IsValue q k v x) → IfSome o (λ x. (k : Kind) → form_of k ≡ by → IsValue r k v x)
number_there r v by n None e h = tt
number_there r v by n (Some x) e h = λ k read. h r k (read ∙ e)

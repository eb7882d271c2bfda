-- The texts of a record, field by field.
use Rattle.std.proofs.Common.{◌≡◌, ◌∙◌, ◌<◌, ℕ, [], ◌∷◌, Option, Some, None, Bool, true, false, refl, length, arith}
use Rattle.std.proofs.lemmas.Bool.{eq-eqb}
use Rattle.oim_entries.specs.EntryFaults.{first_bytes, in_cell, not_texts}
use Rattle.oim_entries.specs.declared.entry_fault.EntryProblem.TheVariants.{NotUtf8}
use Rattle.std.specs.Prelude.{IsUtf8}
use Rattle.std.specs.Option.{option_and_then}
use Rattle.std.specs.Str.{is_utf8}
use Rattle.std.proofs.lemmas.Str.{IsUtf8-from_is_utf8, is_utf8-from_IsUtf8}
use Rattle.csv.specs.Records.{field_at}
use Rattle.oim_entries.specs.CsvFiles.{five_texts, text_field, text_of, three_texts, two_texts}
use Rattle.oim_records.specs.Grids.{Field, Record}

-- A field that is text, and one that is not.
pub text-there : (r : Record) (i : ℕ) (f t : Field) → Some f ≡ field_at r i → t ≡ f → IsUtf8 f → Some t ≡ text_field r i
text-there r i f t there same utf8 = rw (← there, is_utf8-from_IsUtf8 f utf8, same) refl

pub text-bad : (r : Record) (i : ℕ) (f : Field) → Some f ≡ field_at r i → (IsUtf8 f → ⊥) → None ≡ text_field r i
text-bad r i f there bad = rw (← there) (by (is_utf8 f) refl)
  where
    by : (b : Bool) → is_utf8 f ≡ b → None ≡ text_of f
    by true e = absurd (bad (IsUtf8-from_is_utf8 f e))
    by false e = rw e refl

-- Two texts, one after the other.
both : Option Field → Option Field → Option (Field × Field)
both x y = option_and_then (λ a. option_and_then (λ b. Some (a, b)) y) x

two-fields : (r : Record) → length r ≡ 2 → two_texts r ≡ both (text_field r 0) (text_field r 1)
unfolding field_at both
two-fields [] e = cc e
two-fields (a ∷ []) e = cc e
two-fields (a ∷ b ∷ []) e = by (is_utf8 a) (is_utf8 b) refl refl
  where
    by : (x y : Bool) → is_utf8 a ≡ x → is_utf8 b ≡ y → two_texts (a ∷ b ∷ []) ≡ both (text_of a) (text_of b)
    by true true h k = rw (h, k) refl
    by true false h k = rw (h, k) refl
    by false y h k = rw h refl
two-fields (a ∷ b ∷ c ∷ r) e = cc e

pub two-there : (r : Record) (a b : Field) → length r ≡ 2 → Some a ≡ text_field r 0 → Some b ≡ text_field r 1 → two_texts r ≡ Some (a, b)
unfolding both
two-there r a b e f g = rw (two-fields r e, ← f, ← g) refl

pub two-first : (r : Record) → length r ≡ 2 → None ≡ text_field r 0 → two_texts r ≡ None
unfolding both
two-first r e f = rw (two-fields r e, ← f) refl

pub two-second : (r : Record) (a : Field) → length r ≡ 2 → Some a ≡ text_field r 0 → None ≡ text_field r 1 → two_texts r ≡ None
unfolding both
two-second r a e f g = rw (two-fields r e, ← f, ← g) refl

-- Three texts, one after the other.
all_three : Option Field → Option Field → Option Field → Option (Field × Field × Field)
all_three x y z = option_and_then (λ a. option_and_then (λ b. option_and_then (λ c. Some (a, b, c)) z) y) x

three-fields : (r : Record) → length r ≡ 3 → three_texts r ≡ all_three (text_field r 0) (text_field r 1) (text_field r 2)
unfolding field_at all_three
three-fields [] e = cc e
three-fields (a ∷ []) e = cc e
three-fields (a ∷ b ∷ []) e = cc e
three-fields (a ∷ b ∷ c ∷ []) e = by (is_utf8 a) (is_utf8 b) (is_utf8 c) refl refl refl
  where
    by : (x y z : Bool) → is_utf8 a ≡ x → is_utf8 b ≡ y → is_utf8 c ≡ z → three_texts (a ∷ b ∷ c ∷ []) ≡ all_three (text_of a) (text_of b) (text_of c)
    by true true true h k l = rw (h, k, l) refl
    by true true false h k l = rw (h, k, l) refl
    by true false z h k l = rw (h, k) refl
    by false y z h k l = rw h refl
three-fields (a ∷ b ∷ c ∷ d ∷ r) e = cc e

pub three-there : (r : Record) (a b c : Field) → length r ≡ 3 → Some a ≡ text_field r 0 → Some b ≡ text_field r 1 → Some c ≡ text_field r 2 → three_texts r ≡ Some (a, b, c)
unfolding all_three
three-there r a b c e f g h = rw (three-fields r e, ← f, ← g, ← h) refl

pub three-first : (r : Record) → length r ≡ 3 → None ≡ text_field r 0 → three_texts r ≡ None
unfolding all_three
three-first r e f = rw (three-fields r e, ← f) refl

pub three-second : (r : Record) (a : Field) → length r ≡ 3 → Some a ≡ text_field r 0 → None ≡ text_field r 1 → three_texts r ≡ None
unfolding all_three
three-second r a e f g = rw (three-fields r e, ← f, ← g) refl

pub three-third : (r : Record) (a b : Field) → length r ≡ 3 → Some a ≡ text_field r 0 → Some b ≡ text_field r 1 → None ≡ text_field r 2 → three_texts r ≡ None
unfolding all_three
three-third r a b e f g h = rw (three-fields r e, ← f, ← g, ← h) refl

-- Five texts, one after the other.
all_five : Option Field → Option Field → Option Field → Option Field → Option Field → Option (Field × Field × Field × Field × Field)
all_five v w x y z =
    option_and_then (λ a. option_and_then (λ b. option_and_then (λ c. option_and_then (λ d. option_and_then (λ e. Some (a, b, c, d, e)) z) y) x) w) v

five-fields : (r : Record) → length r ≡ 5
    → five_texts r ≡ all_five (text_field r 0) (text_field r 1) (text_field r 2) (text_field r 3) (text_field r 4)
unfolding field_at all_five
five-fields [] e = cc e
five-fields (a ∷ []) e = cc e
five-fields (a ∷ b ∷ []) e = cc e
five-fields (a ∷ b ∷ c ∷ []) e = cc e
five-fields (a ∷ b ∷ c ∷ d ∷ []) e = cc e
five-fields (a ∷ b ∷ c ∷ d ∷ f ∷ []) e = by (is_utf8 a) (is_utf8 b) (is_utf8 c) (is_utf8 d) (is_utf8 f) refl refl refl refl refl
  where
    by : (v w x y z : Bool) → is_utf8 a ≡ v → is_utf8 b ≡ w → is_utf8 c ≡ x → is_utf8 d ≡ y → is_utf8 f ≡ z
        → five_texts (a ∷ b ∷ c ∷ d ∷ f ∷ []) ≡ all_five (text_of a) (text_of b) (text_of c) (text_of d) (text_of f)
    by true true true true true h k l m n = rw (h, k, l, m, n) refl
    by true true true true false h k l m n = rw (h, k, l, m, n) refl
    by true true true false z h k l m n = rw (h, k, l, m) refl
    by true true false y z h k l m n = rw (h, k, l) refl
    by true false x y z h k l m n = rw (h, k) refl
    by false w x y z h k l m n = rw h refl
five-fields (a ∷ b ∷ c ∷ d ∷ f ∷ g ∷ r) e = cc e

pub five-there : (r : Record) (a b c d f : Field) → length r ≡ 5 → Some a ≡ text_field r 0 → Some b ≡ text_field r 1 → Some c ≡ text_field r 2
    → Some d ≡ text_field r 3 → Some f ≡ text_field r 4 → five_texts r ≡ Some (a, b, c, d, f)
unfolding all_five
five-there r a b c d f e h k l m n = rw (five-fields r e, ← h, ← k, ← l, ← m, ← n) refl

pub five-first : (r : Record) → length r ≡ 5 → None ≡ text_field r 0 → five_texts r ≡ None
unfolding all_five
five-first r e h = rw (five-fields r e, ← h) refl

pub five-second : (r : Record) (a : Field) → length r ≡ 5 → Some a ≡ text_field r 0 → None ≡ text_field r 1 → five_texts r ≡ None
unfolding all_five
five-second r a e h k = rw (five-fields r e, ← h, ← k) refl

pub five-third : (r : Record) (a b : Field) → length r ≡ 5 → Some a ≡ text_field r 0 → Some b ≡ text_field r 1 → None ≡ text_field r 2 → five_texts r ≡ None
unfolding all_five
five-third r a b e h k l = rw (five-fields r e, ← h, ← k, ← l) refl

pub five-fourth : (r : Record) (a b c : Field) → length r ≡ 5 → Some a ≡ text_field r 0 → Some b ≡ text_field r 1 → Some c ≡ text_field r 2
    → None ≡ text_field r 3 → five_texts r ≡ None
unfolding all_five
five-fourth r a b c e h k l m = rw (five-fields r e, ← h, ← k, ← l, ← m) refl

pub five-fifth : (r : Record) (a b c d : Field) → length r ≡ 5 → Some a ≡ text_field r 0 → Some b ≡ text_field r 1 → Some c ≡ text_field r 2
    → Some d ≡ text_field r 3 → None ≡ text_field r 4 → five_texts r ≡ None
unfolding all_five
five-fifth r a b c d e h k l m n = rw (five-fields r e, ← h, ← k, ← l, ← m, ← n) refl

-- What is wrong with a record of this many cells.
pub wrong-cell : (n count i : ℕ) (r : Record) → length r ≡ count → first_bytes 0 r ≡ Some i → in_cell n (Some i) NotUtf8 ≡ not_texts n count r
wrong-cell n count i r same at = rw (eq-eqb (length r) count same, at) refl

-- The first field that is not text, by the fields one after the other.
there-utf8 : (f : Field) (a : Field) → Some a ≡ text_of f → is_utf8 f ≡ true
there-utf8 f a e = by (is_utf8 f) refl
  where
    by : (b : Bool) → is_utf8 f ≡ b → is_utf8 f ≡ true
    by true h = h
    by false h = let none : Some a ≡ None = e ∙ rw h refl in cc none

bad-utf8 : (f : Field) → None ≡ text_of f → is_utf8 f ≡ false
bad-utf8 f e = by (is_utf8 f) refl
  where
    by : (b : Bool) → is_utf8 f ≡ b → is_utf8 f ≡ false
    by false h = h
    by true h = let none : None ≡ Some f = e ∙ rw h refl in cc none

pub first-first : (r : Record) → 0 < length r → None ≡ text_field r 0 → first_bytes 0 r ≡ Some 0
unfolding field_at
first-first [] less bad = absurd (omega arith)
first-first (f ∷ r) less bad = rw (bad-utf8 f bad) refl

pub first-second : (r : Record) (a : Field) → 1 < length r → Some a ≡ text_field r 0 → None ≡ text_field r 1 → first_bytes 0 r ≡ Some 1
unfolding field_at
first-second [] a less good bad = absurd (omega arith)
first-second (f ∷ []) a less good bad = absurd (omega arith)
first-second (f ∷ g ∷ r) a less good bad = rw (there-utf8 f a good, bad-utf8 g bad) refl

pub first-third : (r : Record) (a b : Field) → 2 < length r → Some a ≡ text_field r 0 → Some b ≡ text_field r 1 → None ≡ text_field r 2 → first_bytes 0 r ≡ Some 2
unfolding field_at
first-third [] a b less good fine bad = absurd (omega arith)
first-third (f ∷ []) a b less good fine bad = absurd (omega arith)
first-third (f ∷ g ∷ []) a b less good fine bad = absurd (omega arith)
first-third (f ∷ g ∷ h ∷ r) a b less good fine bad = rw (there-utf8 f a good, there-utf8 g b fine, bad-utf8 h bad) refl

pub first-fourth : (r : Record) (a b c : Field) → 3 < length r → Some a ≡ text_field r 0 → Some b ≡ text_field r 1 → Some c ≡ text_field r 2
    → None ≡ text_field r 3 → first_bytes 0 r ≡ Some 3
unfolding field_at
first-fourth [] a b c less h k l bad = absurd (omega arith)
first-fourth (f ∷ []) a b c less h k l bad = absurd (omega arith)
first-fourth (f ∷ g ∷ []) a b c less h k l bad = absurd (omega arith)
first-fourth (f ∷ g ∷ i ∷ []) a b c less h k l bad = absurd (omega arith)
first-fourth (f ∷ g ∷ i ∷ j ∷ r) a b c less h k l bad = rw (there-utf8 f a h, there-utf8 g b k, there-utf8 i c l, bad-utf8 j bad) refl

pub first-fifth : (r : Record) (a b c d : Field) → 4 < length r → Some a ≡ text_field r 0 → Some b ≡ text_field r 1 → Some c ≡ text_field r 2
    → Some d ≡ text_field r 3 → None ≡ text_field r 4 → first_bytes 0 r ≡ Some 4
unfolding field_at
first-fifth [] a b c d less h k l m bad = absurd (omega arith)
first-fifth (f ∷ []) a b c d less h k l m bad = absurd (omega arith)
first-fifth (f ∷ g ∷ []) a b c d less h k l m bad = absurd (omega arith)
first-fifth (f ∷ g ∷ i ∷ []) a b c d less h k l m bad = absurd (omega arith)
first-fifth (f ∷ g ∷ i ∷ j ∷ []) a b c d less h k l m bad = absurd (omega arith)
first-fifth (f ∷ g ∷ i ∷ j ∷ q ∷ r) a b c d less h k l m bad = rw (there-utf8 f a h, there-utf8 g b k, there-utf8 i c l, there-utf8 j d m, bad-utf8 q bad) refl

-- Texts that are split as numerals in one pass.
use Rattle.std.proofs.Common.{◌≡◌, ℕ, zero, suc, ◌+◌, ◌<◌, ◌≤◌, Bool, true, false, cond, ◌==◌, ◌||◌, ◌⊎◌, List, [], ◌∷◌, ◌++◌}
use Rattle.std.proofs.Common.{length, take, drop, get_or, inl, inr, Option, Some, None, IfSome, refl, sym, subst, ap, ◌∙◌, arith, codes, append_assoc, length-append}
use Rattle.std.specs.Str.Parse.{AllDigits, without_leading_sign}
use Rattle.std.proofs.Math.Seq.{take-add}
use Rattle.std.proofs.lemmas.Bool.{eqb-true, ne_eqb}
use Rattle.std.specs.Char.{digit_value}
use Rattle.std.proofs.lemmas.List.{length-drop, length-take-le, take-append-drop, take-take, take_all, take_more}
use Rattle.oim_cells.specs.declared.cells.Accuracy.{Accuracy}
use Rattle.oim_cells.specs.declared.cells.NumberKind.{NumberKind}
use Rattle.oim_cells.specs.declared.cells.NumberKind.TheVariants.{Integer, Decimal, Double}
use Rattle.oim_cells.specs.Blanks.{trimmed}
use Rattle.oim_cells.specs.Numeral.{IsDecimal, IsDecimals, IsDouble, IsInteger, IsNumeralOf, IsSplit, bare, no_power, pointed, power, suffixed}
use Rattle.oim_text.proofs.Ink.{split_trims}
use Rattle.oim_text.specs.state.Digits.{IsFrontOf, IsPointed, begins_with_sign, marks_power, takes_point}
use Rattle.oim_text.specs.Suffixes.{IsSuffix}

-- Digits, one more.
pub digits_push : (xs : List ℕ) (d : ℕ) → AllDigits 10 xs → digit_value d < 10 → AllDigits 10 (xs ++ d ∷ [])
digits_push [] d h k = (k, tt)
digits_push (x ∷ xs) d h k = (h.0, digits_push xs d h.1 k)

-- A sign and digits with at most one point are a numeral.
is_front : (kind : NumberKind) (s u : List ℕ) → without_leading_sign s ≡ u → 0 < length u → AllDigits 10 u → IsFrontOf kind s
is_front Integer s u e h d = rw e (h, d)
is_front Decimal s u e h d = inl (rw e (h, d))
is_front Double s u e h d = inl (rw e (h, d))

pointed_decimal : (s u : List ℕ) → without_leading_sign s ≡ u → 1 < length u → IsPointed u → IsDecimal s
pointed_decimal s u e h p =
    let some : 0 < length p.before + length p.after = omega (arith, ap length p.whole, length-append (p.before ++ codes ".") p.after, length-append p.before (codes ".")) in
    inr (rw (e, p.whole) (pointed p.before p.after p.before_digits p.after_digits some))

is_pointed_front : (kind : NumberKind) (s u : List ℕ) → takes_point kind ≡ true → without_leading_sign s ≡ u → 1 < length u → IsPointed u → IsFrontOf kind s
is_pointed_front Integer s u n e h p = absurd (cc)
is_pointed_front Decimal s u n e h p = pointed_decimal s u e h p
is_pointed_front Double s u n e h p = pointed_decimal s u e h p

-- Digits, a point and digits.
pub pointed_there : (xs : List ℕ) (n m : ℕ) → n < length xs → get_or xs n 0 ≡ 46 → AllDigits 10 (take n xs) → AllDigits 10 (take m (drop (n + 1) xs)) → IsPointed (take (n + 1 + m) xs)
pointed_there xs n m lt point before after =
    let front : take (n + 1) xs ≡ take n xs ++ codes "." = take_more xs n 0 lt ∙ ap (λ c. take n xs ++ c ∷ []) point in
    record {
      before = take n xs;
      after = take m (drop (n + 1) xs);
      whole = take-add (n + 1) m xs ∙ ap (λ t. t ++ take m (drop (n + 1) xs)) front;
      before_digits = before;
      after_digits = after;
    }

signed_by : (b d : Bool) (c : ℕ) (xs : List ℕ) → (b || d) ≡ true → cond b xs (drop (cond d 1 0) (c ∷ xs)) ≡ xs
signed_by true d c xs h = refl
signed_by false true c xs h = refl
signed_by false false c xs h = absurd (cc)

unsigned_by : (b d : Bool) (xs : List ℕ) → (b || d) ≡ false → cond b (drop 1 xs) (drop (cond d 1 0) xs) ≡ xs
unsigned_by true d xs h = absurd (cc)
unsigned_by false true xs h = absurd (cc)
unsigned_by false false xs h = refl

pub signed : (xs : List ℕ) (k : ℕ) → begins_with_sign xs ≡ true → without_leading_sign (take (1 + k) xs) ≡ take k (drop 1 xs)
signed [] k h = absurd (cc)
signed (c ∷ cs) k h = let more : 1 + k ≡ suc k = omega arith in rw more (signed_by (c == 45) (c == 43) c (take k cs) h)

pub unsigned : (xs : List ℕ) (k : ℕ) → begins_with_sign xs ≡ false → without_leading_sign (take (0 + k) xs) ≡ take k (drop 0 xs)
unsigned xs k h = let same : 0 + k ≡ k = omega arith in rw same (unsigned_at xs k h)
  where
    unsigned_at : (xs : List ℕ) (k : ℕ) → begins_with_sign xs ≡ false → without_leading_sign (take k xs) ≡ take k xs
    unsigned_at xs zero h = refl
    unsigned_at [] (suc k) h = refl
    unsigned_at (c ∷ cs) (suc k) h = unsigned_by (c == 45) (c == 43) (c ∷ take k cs) h

-- A leading digit is not a sign.
digits_begin : (xs : List ℕ) (n : ℕ) → 0 < n → AllDigits 10 (take n xs) → begins_with_sign xs ≡ false
digits_begin xs zero some h = absurd (omega arith)
digits_begin [] (suc n) some h = refl
digits_begin (c ∷ cs) (suc n) some h = rw (ne_eqb c 45 (no_digit 45 (omega arith)), ne_eqb c 43 (no_digit 43 (omega arith))) refl
  where
    no_digit : (d : ℕ) → 10 ≤ digit_value d → c ≡ d → ⊥
    no_digit d high e = let bad : digit_value d < 10 = subst (λ k. digit_value k < 10) e h.0 in absurd (omega arith)

pub digits_unsigned : (xs : List ℕ) (n : ℕ) → 0 < n → AllDigits 10 (take n xs) → (k : ℕ) → without_leading_sign (take (0 + k) xs) ≡ take k (drop 0 xs)
digits_unsigned xs n some h k = unsigned xs k (digits_begin xs n some h)

abbrev IsSign : List ℕ → ℕ → Type 0
IsSign xs n = (k : ℕ) → without_leading_sign (take (n + k) xs) ≡ take k (drop n xs)

long_enough : (xs : List ℕ) (n m : ℕ) → n + m ≤ length xs → length (take m (drop n xs)) ≡ m
long_enough xs n m le = length-take-le m (drop n xs) (omega (arith, length-drop n xs))

-- m digits after a sign of length n.
pub digits_there : (kind : NumberKind) (xs : List ℕ) (n m : ℕ) → IsSign xs n → n + m ≤ length xs → 0 < m → AllDigits 10 (take m (drop n xs)) → IsFrontOf kind (take (n + m) xs)
digits_there kind xs n m sign le some h =
    let is = long_enough xs n m le in
    let there : 0 < length (take m (drop n xs)) = omega (arith, is) in
    is_front kind (take (n + m) xs) (take m (drop n xs)) (sign m) there h

-- Only digits.
pub digits_front : (kind : NumberKind) (xs : List ℕ) (n : ℕ) → n ≤ length xs → 0 < n → AllDigits 10 (take n xs) → IsFrontOf kind (take n xs)
digits_front kind xs n le some h =
    let same : 0 + n ≡ n = omega arith in
    subst (λ k. IsFrontOf kind (take k xs)) same (digits_there kind xs 0 n (digits_unsigned xs n some h) (omega arith) some h)

pub pointed_digits_there : (kind : NumberKind) (xs : List ℕ) (n m : ℕ) → IsSign xs n → n + m ≤ length xs → 1 < m → takes_point kind ≡ true → IsPointed (take m (drop n xs))
    → IsFrontOf kind (take (n + m) xs)
pointed_digits_there kind xs n m sign le some takes h =
    let is = long_enough xs n m le in
    let there : 1 < length (take m (drop n xs)) = omega (arith, is) in
    is_pointed_front kind (take (n + m) xs) (take m (drop n xs)) takes (sign m) there h

-- A power of ten after the mantissa.
pub front_is_numeral : (kind : NumberKind) (s : List ℕ) → IsFrontOf kind s → IsNumeralOf kind s
front_is_numeral Integer s h = h
front_is_numeral Decimal s h = h
front_is_numeral Double s h = no_power s h

mark_of : (a b : Bool) (c : ℕ) → (c == 101) ≡ a → (c == 69) ≡ b → (a || b) ≡ true → (c ∷ [] ≡ codes "e") ⊎ (c ∷ [] ≡ codes "E")
mark_of true b c e f h = inl (ap (λ k. k ∷ []) (eqb-true c 101 e))
mark_of false true c e f h = inr (ap (λ k. k ∷ []) (eqb-true c 69 f))
mark_of false false c e f h = absurd (cc h)

pub with_power : (kind : NumberKind) (xs : List ℕ) (f b : ℕ) → f < length xs → marks_power kind (get_or xs f 0) ≡ true → IsFrontOf kind (take f xs) → IsInteger (take b (drop (f + 1) xs))
    → IsNumeralOf kind (take (f + 1 + b) xs)
with_power Integer xs f b lt marks front back = absurd (cc marks)
with_power Decimal xs f b lt marks front back = absurd (cc marks)
with_power Double xs f b lt marks front back =
    let c = get_or xs f 0 in
    let whole : take (f + 1 + b) xs ≡ take f xs ++ (c ∷ []) ++ take b (drop (f + 1) xs) =
    take-add (f + 1) b xs ∙ ap (λ t. t ++ take b (drop (f + 1) xs)) (take_more xs f 0 lt) in
    subst IsDouble (sym whole) (power (take f xs) (c ∷ []) (take b (drop (f + 1) xs)) front (mark_of (c == 101) (c == 69) c refl refl marks) back)

-- A numeral at the start of bytes that begin with a text.
front_of : (kind : NumberKind) (s b : List ℕ) (n : ℕ) → take (length s) b ≡ s → n ≤ length s → IsNumeralOf kind (take n b) → IsNumeralOf kind (take n s)
front_of kind s b n same le h = subst (IsNumeralOf kind) (sym (take-take n (length s) b le) ∙ ap (take n) same) h

-- A text that is a numeral, if b begins with the text.
pub whole_split : (kind : NumberKind) (s b : List ℕ) (n : ℕ) → take (length s) b ≡ s → n ≡ length s → IsNumeralOf kind (take n b) → IsSplit kind (trimmed s) (take n s) None
whole_split kind s b n same long h =
    let numeral = front_of kind s b n same (omega (arith, long)) h in
    let split : IsSplit kind s (take n s) None = subst (λ t. IsSplit kind t (take n s) None) (take_all n s (omega (arith, long))) (bare kind (take n s) numeral) in
    subst (λ t. IsSplit kind t (take n s) None) (sym (split_trims kind s (take n s) None split)) split

-- A text that is a numeral, `d` and decimals.
pub suffix_split : (kind : NumberKind) (s b rest suffix : List ℕ) (a : Accuracy) (n : ℕ) → take (length s) b ≡ s → n ≤ length s → IsNumeralOf kind (take n b)
    → rest ≡ drop n s → rest ≡ 100 ∷ suffix → IsDecimals suffix a → IsSplit kind (trimmed s) (take n s) (Some a)
suffix_split kind s b rest suffix a n same le h back marked decimals =
    let v = take n s in
    let numeral = front_of kind s b n same le h in
    let whole : (v ++ codes "d") ++ suffix ≡ s = append_assoc v (codes "d") suffix ∙ ap (λ t. v ++ t) (sym marked ∙ back) ∙ take-append-drop n s in
    let split : IsSplit kind s v (Some a) = subst (λ t. IsSplit kind t v (Some a)) whole (suffixed kind v suffix a numeral decimals) in
    subst (λ t. IsSplit kind t v (Some a)) (sym (split_trims kind s v (Some a) split)) split

-- `d` and the decimals that it states.
pub suffix_read : (s t : List ℕ) (o : Option Accuracy) → s ≡ 100 ∷ t → ((a : Accuracy) → o ≡ Some a → IsDecimals t a) → IfSome o (IsSuffix s)
suffix_read s t None marked h = tt
suffix_read s t (Some a) marked h = record { text = t; marked = marked; states = h a refl }

-- The test of durations agrees with their definition.
use Rattle.std.proofs.Common.{◌≡◌, ◌≢◌, ◌⊎◌, inl, inr, ℕ, ◌<◌, ◌==◌, ◌&&◌, nat_lt, true, false, Decides, List, [], ◌∷◌, ◌++◌, codes, refl, sym, ap, subst, ◌∙◌, arith, length, get_or, append_assoc}
use Rattle.std.specs.Int.{is_in_range}
use Rattle.std.specs.List.{AllByRecursion}
use Rattle.std.proofs.lemmas.Bool.{cases_Bool, eqb-true, eq-eqb, ne_eqb, lt-ltb, ltb-true}
use Rattle.std.proofs.lemmas.List.{length-append}
use Rattle.std.proofs.lemmas.Slice.Eq.{bytes_eq-Decides}
use Rattle.oim_period.proofs.Found.{both, both_yes, range_decides}
use Rattle.oim_schema.specs.Digits.{after_digits}
use Rattle.oim_schema.specs.Durations.{IsDigit, IsPart, absent, present, IsSeconds, whole, fraction, IsClockPart, no_clock, clock, IsUnsignedDuration, parts, IsDuration, forward, backward}
use Rattle.oim_schema.specs.Durations.{after_letter, after_part, ends_seconds, is_seconds, is_clock_part, ends_parts, are_parts, is_unsigned_duration, is_signed_duration, is_duration}
use Rattle.oim_schema.proofs.Times.{digits_split, digits_after}

digit_yes : (c : ℕ) → IsDigit c → is_in_range 48 57 c ≡ true
digit_yes c h = (range_decides 48 57 c).1 h

-- Digits before a character that is not a digit.
run_after : (ds : List ℕ) (c : ℕ) (rest : List ℕ) → AllByRecursion IsDigit ds → is_in_range 48 57 c ≡ false → after_digits 57 (ds ++ c ∷ rest) ≡ c ∷ rest
run_after ds c rest a f = digits_after 57 ds (c ∷ rest) a (rw f refl)

run_letter : (ds : List ℕ) (c : ℕ) (rest : List ℕ) → AllByRecursion IsDigit ds → is_in_range 48 57 c ≡ false → after_digits 57 ((ds ++ c ∷ []) ++ rest) ≡ c ∷ rest
run_letter ds c rest a f = ap (after_digits 57) (append_assoc ds (c ∷ []) rest) ∙ run_after ds c rest a f

-- The character after the first digits.
abbrev head : List ℕ → ℕ
head t = get_or (after_digits 57 t) 0 0

letter_kept : (l : ℕ) (t r : List ℕ) → get_or r 0 0 ≢ l → after_letter l t r ≡ t
letter_kept l t [] n = refl
letter_kept l t (x ∷ xs) n = rw (ne_eqb x l n) refl

part_kept : (l : ℕ) (t : List ℕ) → head t ≢ l → after_part l t ≡ t
part_kept l [] n = refl
part_kept l (c ∷ cs) n =
    elim (cases_Bool (is_in_range 48 57 c)) [
      | inl e ↦ let m : get_or (after_digits 57 cs) 0 0 ≢ l = rw e at n in rw e (letter_kept l (c ∷ cs) (after_digits 57 cs) m)
      | inr e ↦ rw e refl
    ]

part_after : (l : ℕ) {p : List ℕ} (rest : List ℕ) → is_in_range 48 57 l ≡ false → IsPart l p → head rest ≢ l → after_part l (p ++ rest) ≡ rest
part_after l rest f (absent k) n = part_kept l rest n
part_after l rest f (present k d ds h a) n =
    rw (digit_yes d h) (ap (after_letter l _) (run_letter ds l rest a f) ∙ rw (eq-eqb l l refl) refl)

head_part : (l : ℕ) {p : List ℕ} (rest : List ℕ) → is_in_range 48 57 l ≡ false → IsPart l p → (head (p ++ rest) ≡ l) ⊎ (head (p ++ rest) ≡ head rest)
head_part l rest f (absent k) = inr refl
head_part l rest f (present k d ds h a) = inl (rw (digit_yes d h) (ap (λ t. get_or t 0 0) (run_letter ds l rest a f)))

head_clock : {t : List ℕ} → IsClockPart t → (head t ≡ 0) ⊎ (head t ≡ 84)
head_clock no_clock = inl refl
head_clock (clock h m s a b c n) = inr refl

head_whole : {p : List ℕ} → IsPart 83 p → (head p ≡ 0) ⊎ (head p ≡ 83)
head_whole (absent l) = inl refl
head_whole (present l d ds h a) = inr (rw (digit_yes d h) (ap (λ t. get_or t 0 0) (run_after ds 83 [] a refl)))

head_seconds : {s : List ℕ} (l : ℕ) → IsSeconds s → 47 < l → l < 83 → head s ≢ l
head_seconds l (whole p i) m n e = let h = head_whole i in absurd (grind (arith, h))
head_seconds l (fraction d d₂ ds ds₂ h a k b) m n e =
    let x : head (d ∷ (ds ++ 46 ∷ d₂ ∷ (ds₂ ++ codes "S"))) ≡ 46 = rw (digit_yes d h) (ap (λ t. get_or t 0 0) (run_after ds 46 _ a refl)) in
    absurd (omega (arith, x, e))

whole_to : {p : List ℕ} → IsPart 83 p → is_seconds p ≡ true
whole_to (absent l) = refl
whole_to (present l d ds h a) = both_yes _ _ (digit_yes d h) (ap ends_seconds (run_after ds 83 [] a refl))

seconds_to : {s : List ℕ} → IsSeconds s → is_seconds s ≡ true
seconds_to (whole p i) = whole_to i
seconds_to (fraction d d₂ ds ds₂ h a k b) =
    both_yes _ _ (digit_yes d h)
    (ap ends_seconds (run_after ds 46 (d₂ ∷ (ds₂ ++ codes "S")) a refl) ∙ both_yes _ _ (digit_yes d₂ k) ((bytes_eq-Decides _ _).1 (run_after ds₂ 83 [] b refl)))

not_here : (l k : ℕ) {p : List ℕ} (rest : List ℕ) → is_in_range 48 57 k ≡ false → IsPart k p → k ≢ l → head rest ≢ l → head (p ++ rest) ≢ l
not_here l k {p = p} rest f i n m e =
    elim (head_part k rest f i) [ inl h ↦ n (sym h ∙ e) | inr h ↦ m (sym h ∙ e) ]

not_clock : (l : ℕ) {t : List ℕ} → IsClockPart t → 0 < l → 84 ≢ l → head t ≢ l
not_clock l i h n e = elim (head_clock i) [ inl k ↦ absurd (omega (arith, k, e)) | inr k ↦ n (sym k ∙ e) ]

clock_to : (h m s : List ℕ) → IsPart 72 h → IsPart 77 m → IsSeconds s → 0 < length (h ++ (m ++ s)) → is_clock_part (h ++ (m ++ s)) ≡ true
clock_to h m s i j k n =
    let e : after_part 77 (m ++ s) ≡ s = part_after 77 s refl j (head_seconds 77 k (omega arith) (omega arith)) in
    let q : head (m ++ s) ≢ 72 = not_here 72 77 s refl j (omega arith) (head_seconds 72 k (omega arith) (omega arith)) in
    let f : after_part 72 (h ++ (m ++ s)) ≡ m ++ s = part_after 72 (m ++ s) refl i q in
    both_yes _ _ (lt-ltb _ _ n) (ap (λ t. is_seconds (after_part 77 t)) f ∙ ap is_seconds e ∙ seconds_to k)

ends_to : (text : List ℕ) {t : List ℕ} → IsClockPart t → 0 < length text → ends_parts text t ≡ true
ends_to text no_clock n = lt-ltb _ _ n
ends_to text (clock h m s i j k l) n = both_yes _ _ refl (clock_to h m s i j k l)

parts_to : (y m d t : List ℕ) → IsPart 89 y → IsPart 77 m → IsPart 68 d → IsClockPart t → 0 < length (y ++ (m ++ (d ++ t))) → are_parts (y ++ (m ++ (d ++ t))) ≡ true
parts_to y m d t i j k l n =
    let text = y ++ (m ++ (d ++ t)) in
    let q : head (d ++ t) ≢ 77 = not_here 77 68 t refl k (omega arith) (not_clock 77 l (omega arith) (omega arith)) in
    let q₂ : head (d ++ t) ≢ 89 = not_here 89 68 t refl k (omega arith) (not_clock 89 l (omega arith) (omega arith)) in
    let r : head (m ++ (d ++ t)) ≢ 89 = not_here 89 77 (d ++ t) refl j (omega arith) q₂ in
    let e : after_part 89 text ≡ m ++ (d ++ t) = part_after 89 (m ++ (d ++ t)) refl i r in
    let f : after_part 77 (m ++ (d ++ t)) ≡ d ++ t = part_after 77 (d ++ t) refl j q in
    let g : after_part 68 (d ++ t) ≡ t = part_after 68 t refl k (not_clock 68 l (omega arith) (omega arith)) in
    ap (λ x. ends_parts text (after_part 68 (after_part 77 x))) e ∙ ap (λ x. ends_parts text (after_part 68 x)) f ∙ ap (ends_parts text) g ∙ ends_to text l n

unsigned_to : {t : List ℕ} → IsUnsignedDuration t → is_unsigned_duration t ≡ true
unsigned_to (parts y m d t i j k l n) = both_yes _ _ refl (parts_to y m d t i j k l n)

signed_to : {t : List ℕ} → IsDuration t → is_signed_duration t ≡ true
signed_to (forward t (parts y m d c i j k l n)) = unsigned_to (parts y m d c i j k l n)
signed_to (backward t u) = unsigned_to u

-- A text is its first part and the text after it.
abbrev Cut : ℕ → List ℕ → List ℕ → Type 0
Cut l t rest = (p : List ℕ) × IsPart l p × (t ≡ p ++ rest)

letter_split : (l c : ℕ) (cs ds r : List ℕ) → IsDigit c → AllByRecursion IsDigit ds → cs ≡ ds ++ r → Cut l (c ∷ cs) (after_letter l (c ∷ cs) r)
letter_split l c cs ds [] h a e = ([], absent l, refl)
letter_split l c cs ds (x ∷ xs) h a e =
    elim (cases_Bool (x == l)) [
      | inl f ↦ (
        c ∷ (ds ++ l ∷ []),
        present l c ds h a,
        rw f (ap (λ z. c ∷ z) (e ∙ ap (λ z. ds ++ z ∷ xs) (eqb-true x l f) ∙ sym (append_assoc ds (l ∷ []) xs))),
      )
      | inr f ↦ ([], absent l, rw f refl)
    ]

part_split : (l : ℕ) (t : List ℕ) → Cut l t (after_part l t)
part_split l [] = ([], absent l, refl)
part_split l (c ∷ cs) =
    elim (cases_Bool (is_in_range 48 57 c)) [
      | inl e ↦
          let s = digits_split 57 cs in
          let f : after_letter l (c ∷ cs) (after_digits 57 cs) ≡ after_part l (c ∷ cs) = rw e refl in
          subst (Cut l (c ∷ cs)) f (letter_split l c cs s.0 (after_digits 57 cs) ((range_decides 48 57 c).0 e) s.1 s.2)
      | inr e ↦ ([], absent l, rw e refl)
    ]

seconds_by : (c : ℕ) (cs ds r : List ℕ) → IsDigit c → AllByRecursion IsDigit ds → cs ≡ ds ++ r → ends_seconds r ≡ true → IsSeconds (c ∷ cs)
seconds_by c cs ds [] h a e t = absurd (cc)
seconds_by c cs ds (x ∷ []) h a e t =
    let f = eqb-true x 83 t in
    subst IsSeconds (ap (λ z. c ∷ z) (sym (e ∙ ap (λ z. ds ++ z ∷ []) f))) (whole _ (present 83 c ds h a))
seconds_by c cs ds (x ∷ y ∷ ys) h a e t =
    let k = both ((x == 46) && is_in_range 48 57 y) _ t in
    let l = both (x == 46) _ k.0 in
    let s = digits_split 57 ys in
    let f = eqb-true x 46 l.0 in
    let g : ys ≡ s.0 ++ codes "S" = s.2 ∙ ap (λ z. s.0 ++ z) ((bytes_eq-Decides _ _).0 k.1) in
    subst IsSeconds (ap (λ z. c ∷ z) (sym (e ∙ ap (λ z. ds ++ z ∷ y ∷ ys) f ∙ ap (λ z. ds ++ 46 ∷ y ∷ z) g)))
    (fraction c y ds s.0 h a ((range_decides 48 57 y).0 l.1) s.1)

seconds_from : (s : List ℕ) → is_seconds s ≡ true → IsSeconds s
seconds_from [] t = whole [] (absent 83)
seconds_from (c ∷ cs) t =
    let h = both (is_in_range 48 57 c) _ t in
    let s = digits_split 57 cs in
    seconds_by c cs s.0 (after_digits 57 cs) ((range_decides 48 57 c).0 h.0) s.1 s.2 h.1

clock_from : (t : List ℕ) → is_clock_part t ≡ true → IsClockPart (84 ∷ t)
clock_from t e =
    let h = both (nat_lt 0 (length t)) _ e in
    let a = part_split 72 t in
    let b = part_split 77 (after_part 72 t) in
    let s = seconds_from _ h.1 in
    let w : t ≡ a.0 ++ (b.0 ++ after_part 77 (after_part 72 t)) = a.2 ∙ ap (λ z. a.0 ++ z) b.2 in
    subst (λ z. IsClockPart (84 ∷ z)) (sym w) (clock a.0 b.0 _ a.1 b.1 s (subst (λ z. 0 < length z) w (ltb-true _ _ h.0)))

longer : (a b : List ℕ) → 0 < length b → 0 < length (a ++ b)
longer a b h = omega (arith, length-append a b)

ends_from : (text a r : List ℕ) → text ≡ a ++ r → ends_parts text r ≡ true → IsClockPart r × (0 < length text)
ends_from text a [] w e = (no_clock, ltb-true _ _ e)
ends_from text a (c ∷ cs) w e =
    let h = both (c == 84) _ e in
    let f : IsClockPart (c ∷ cs) = subst (λ z. IsClockPart (z ∷ cs)) (sym (eqb-true c 84 h.0)) (clock_from cs h.1) in
    (f, subst (λ z. 0 < length z) (sym w) (longer a (c ∷ cs) (omega arith)))

parts_from : (t : List ℕ) → are_parts t ≡ true → IsUnsignedDuration (80 ∷ t)
parts_from t e =
    let a = part_split 89 t in
    let b = part_split 77 (after_part 89 t) in
    let c = part_split 68 (after_part 77 (after_part 89 t)) in
    let r = after_part 68 (after_part 77 (after_part 89 t)) in
    let w : t ≡ a.0 ++ (b.0 ++ (c.0 ++ r)) = a.2 ∙ ap (λ z. a.0 ++ z) (b.2 ∙ ap (λ z. b.0 ++ z) c.2) in
    let w₂ : t ≡ (a.0 ++ (b.0 ++ c.0)) ++ r = w ∙ ap (λ z. a.0 ++ z) (sym (append_assoc b.0 c.0 r)) ∙ sym (append_assoc a.0 (b.0 ++ c.0) r) in
    let k = ends_from t (a.0 ++ (b.0 ++ c.0)) r w₂ e in
    subst (λ z. IsUnsignedDuration (80 ∷ z)) (sym w) (parts a.0 b.0 c.0 r a.1 b.1 c.1 k.0 (subst (λ z. 0 < length z) w k.1))

unsigned_from : (t : List ℕ) → is_unsigned_duration t ≡ true → IsUnsignedDuration t
unsigned_from [] e = absurd (cc)
unsigned_from (c ∷ cs) e =
    let h = both (c == 80) _ e in
    subst (λ z. IsUnsignedDuration (z ∷ cs)) (sym (eqb-true c 80 h.0)) (parts_from cs h.1)

signed_from : (t : List ℕ) → is_signed_duration t ≡ true → IsDuration t
signed_from [] e = absurd (cc)
signed_from (c ∷ cs) e =
    elim (cases_Bool (c == 45)) [
      | inl f ↦ subst (λ z. IsDuration (z ∷ cs)) (sym (eqb-true c 45 f)) (backward cs (unsigned_from cs (rw f at e)))
      | inr f ↦ forward (c ∷ cs) (unsigned_from (c ∷ cs) (rw f at e))
    ]

pub duration_Decides : (t : List ℕ) → Decides (is_duration t) (IsDuration t)
unfolding is_duration
duration_Decides t = (signed_from t, signed_to)

-- The functions of `specs.Cells` agree with the relations.
use Rattle.std.proofs.Common.{◌≡◌, ◌↔◌, ◌⊎◌, inl, inr, ℕ, ◌&&◌, List, ◌∷◌, ◌++◌, refl, sym, ap, subst, ◌∙◌, arith, append_assoc, codes, Bool, true, false, cond, Option, None, Some, FitsSigned}
use Rattle.std.specs.Borrow.{Bor}
use Rattle.std.specs.Prelude.{IfSome, IsSomeAnd}
use Rattle.std.specs.Int.{w32}
use Rattle.std.specs.Option.{option_map}
use Rattle.std.specs.Str.{bytes_eq}
use Rattle.std.specs.Str.Parse.{signed_digits_value}
use Rattle.std.proofs.lemmas.Bool.{cases_Bool, and_from, and_parts, false_from_ne_true}
use Rattle.std.proofs.lemmas.Slice.Eq.{bytes_eq-Decides}
use Rattle.oim_cells.specs.declared.cells.Accuracy.{Accuracy}
use Rattle.oim_cells.specs.declared.cells.Accuracy.TheVariants.{Infinite, Places}
use Rattle.oim_cells.specs.declared.cells.NumberKind.{NumberKind}
use Rattle.oim_cells.specs.Blanks.{trimmed}
use Rattle.oim_cells.specs.Numeral.{IsInteger, IsDecimals, infinite, places, IsSplit, suffixed, bare, is_integer_text, is_in_places, is_numeral_text, parts_at}
use Rattle.oim_cells.specs.Cells.{accuracy_of, numeral_at, numeral_of, seen_numeral}
use Rattle.oim_cells.proofs.Suffixes.{numeral_lacks}
use Rattle.oim_cells.proofs.Grammars.{integer_Decides, numeral_Decides, places_Decides, parts_at-mark, parts_at-none, parts_cases}

-- Two answers with the same values are the same.
pub same_answer : {X : Type 0} (o p : Option X) → ((x : X) → (o ≡ Some x) ↔ (p ≡ Some x)) → o ≡ p
same_answer None None h = refl
same_answer None (Some y) h = (h y).1 refl
same_answer (Some x) p h = sym ((h x).0 refl)

some_or_none : {X : Type 0} (o : Option X) → (o ≡ None) ⊎ ((x : X) × (o ≡ Some x))
some_or_none None = inl refl
some_or_none (Some x) = inr (x, refl)

is_places : List ℕ → Bool
is_places t = is_integer_text t && is_in_places (signed_digits_value 10 t)

accuracy_by : (t : List ℕ) (b c : Bool) → bytes_eq t (codes "INF") ≡ b → is_places t ≡ c → accuracy_of t ≡ cond b (Some Infinite) (cond c (Some (Places (signed_digits_value 10 t))) None)
unfolding accuracy_of is_places
accuracy_by t b c e f = rw (e, f) refl

not_infinite : (t : List ℕ) → IsInteger t → bytes_eq t (codes "INF") ≡ false
not_infinite t i = false_from_ne_true _ (λ e. let k : IsInteger (codes "INF") = subst IsInteger ((bytes_eq-Decides t (codes "INF")).0 e) i in absurd (omega (arith, k.1.0)))

places_when : (t : List ℕ) → is_places t ≡ true → IsDecimals t (Places (signed_digits_value 10 t))
unfolding is_places
places_when t e = let k = and_parts _ _ e in places t ((integer_Decides t).0 k.0) ((places_Decides _).0 k.1)

when_places : (t : List ℕ) → IsInteger t → FitsSigned w32 (signed_digits_value 10 t) → is_places t ≡ true
unfolding is_places
when_places t i f = and_from _ _ ((integer_Decides t).1 i) ((places_Decides _).1 f)

accuracy_from : (t : List ℕ) (a : Accuracy) → accuracy_of t ≡ Some a → IsDecimals t a
accuracy_from t a h =
    elim (cases_Bool (bytes_eq t (codes "INF"))) [
      | inl e ↦
          let s : Some Infinite ≡ Some a = sym (accuracy_by t true _ e refl) ∙ h in
          let same : Infinite ≡ a = cc in
          rw ((bytes_eq-Decides t (codes "INF")).0 e, ← same) infinite
      | inr e ↦ elim (cases_Bool (is_places t)) [
        | inl f ↦
            let s : Some (Places (signed_digits_value 10 t)) ≡ Some a = sym (accuracy_by t false true e f) ∙ h in
            let same : Places (signed_digits_value 10 t) ≡ a = cc in
            subst (IsDecimals t) same (places_when t f)
        | inr f ↦ let s : None ≡ Some a = sym (accuracy_by t false false e f) ∙ h in absurd (cc)
      ]
    ]

accuracy_to : {t : List ℕ} {a : Accuracy} → IsDecimals t a → accuracy_of t ≡ Some a
accuracy_to infinite = accuracy_by (codes "INF") true _ refl refl
accuracy_to (places t i f) = accuracy_by t false true (not_infinite t i) (when_places t i f)

pub accuracy_law : (t : List ℕ) (a : Accuracy) → (accuracy_of t ≡ Some a) ↔ IsDecimals t a
accuracy_law t a = (accuracy_from t a, accuracy_to)

-- A text that is not of the grammar states nothing.
pub no_accuracy : (t : List ℕ) → ((a : Accuracy) → IsDecimals t a → ⊥) → None ≡ accuracy_of t
no_accuracy t n = same_answer None (accuracy_of t) (λ a. (λ e. absurd (cc), λ e. absurd (n a (accuracy_from t a e))))

bare_from : (kind : NumberKind) (s v : List ℕ) (a : Option Accuracy) → numeral_at kind s None ≡ Some (v, a) → IsSplit kind s v a
bare_from kind s v a h =
    elim (cases_Bool (is_numeral_text kind s)) [
      | inl e ↦
          let k = rw e at h in
          let q : ◌≡◌ {A = List ℕ × Option Accuracy} (s, None) (v, a) = cc in
          subst (λ r. IsSplit kind s r.0 r.1) q (bare kind s ((numeral_Decides kind s).0 e))
      | inr e ↦ let k = rw e at h in absurd (cc)
    ]

suffixed_from : (kind : NumberKind) (s v w d : List ℕ) (a : Option Accuracy) → s ≡ w ++ 100 ∷ d → numeral_at kind s (Some (w, d)) ≡ Some (v, a) → IsSplit kind s v a
suffixed_from kind s v w d a t h =
    elim (cases_Bool (is_numeral_text kind w)) [
      | inl e ↦ elim (some_or_none (accuracy_of d)) [
        | inl n ↦ let k = rw (e, n) at h in absurd (cc)
        | inr y ↦
            let k = rw (e, y.1) at h in
            let q : ◌≡◌ {A = List ℕ × Option Accuracy} (w, Some y.0) (v, a) = cc in
            let i = suffixed kind w d y.0 ((numeral_Decides kind w).0 e) (accuracy_from d y.0 y.1) in
            subst (λ r. IsSplit kind s r.0 r.1) q (subst (λ x. IsSplit kind x w (Some y.0)) (append_assoc w (codes "d") d ∙ sym t) i)
      ]
      | inr e ↦ let k = rw e at h in absurd (cc)
    ]

numeral_from : (kind : NumberKind) (s v : List ℕ) (a : Option Accuracy) → numeral_at kind s (parts_at 100 s) ≡ Some (v, a) → IsSplit kind s v a
numeral_from kind s v a h =
    elim (parts_cases 100 s) [
      | inl n ↦ bare_from kind s v a (sym (ap (numeral_at kind s) n) ∙ h)
      | inr p ↦ suffixed_from kind s v p.0 p.1 a p.3 (sym (ap (numeral_at kind s) p.2) ∙ h)
    ]

numeral_to : {kind : NumberKind} {s v : List ℕ} {a : Option Accuracy} → IsSplit kind s v a → numeral_at kind s (parts_at 100 s) ≡ Some (v, a)
numeral_to (suffixed kind v d a n i) =
    let s = (v ++ codes "d") ++ d in
    let e : parts_at 100 s ≡ Some (v, d) = ap (parts_at 100) (append_assoc v (codes "d") d) ∙ parts_at-mark 100 v d (numeral_lacks kind v n) in
    ap (numeral_at kind s) e ∙ rw ((numeral_Decides kind v).1 n, accuracy_to i) refl
numeral_to (bare kind v n) =
    ap (numeral_at kind v) (parts_at-none 100 v (numeral_lacks kind v n)) ∙ rw ((numeral_Decides kind v).1 n) refl

pub numeral_law : (kind : NumberKind) (text v : List ℕ) (a : Option Accuracy) → (numeral_of kind text ≡ Some (v, a)) ↔ IsSplit kind (trimmed text) v a
unfolding numeral_of
numeral_law kind text v a = (numeral_from kind (trimmed text) v a, numeral_to)

-- The program's answer is a split, and the only one.
pub numeral_seen : (kind : NumberKind) (text s : List ℕ) (o : Option (Bor (List ℕ) × Option Accuracy)) → s ≡ trimmed text → IfSome o (λ r. IsSplit kind s r.0.now r.1)
    → ((v : List ℕ) (a : Option Accuracy) → IsSplit kind s v a → IsSomeAnd o (λ r. (r.0.now ≡ v) × (r.1 ≡ a))) → option_map seen_numeral o ≡ numeral_of kind text
numeral_seen kind text s None e h k =
    same_answer None (numeral_of kind text)
    (λ x. (λ q. absurd (cc), λ q. absurd (k x.0 x.1 (subst (λ t. IsSplit kind t x.0 x.1) (sym e) ((numeral_law kind text x.0 x.1).0 q)))))
numeral_seen kind text s (Some r) e h k =
    sym ((numeral_law kind text r.0.now r.1).1 (subst (λ t. IsSplit kind t r.0.now r.1) e h))

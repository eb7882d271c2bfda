-- Texts without dots, and lists whose items differ.
use Rattle.std.proofs.Common.{◌≡◌, ◌++◌, ◌∷◌, [], ◌==◌, ◌||◌, ◌<◌, ◌≤◌, ◌^◌, ◌∙◌, append_assoc, ℕ, zero, suc}
use Rattle.std.proofs.Common.{List, Some, Bool, true, false, map, codes, decimal, refl, sym, ap, slice_get, arith, bytes_eq}
use Rattle.std.specs.List.{AllByRecursion, IsDistinct, list_any}
use Rattle.std.proofs.lemmas.Bool.{eq-eqb, eqb-true, false_from_ne_true}
use Rattle.std.proofs.lemmas.Fmt.{decimal_is_IsNumeral}
use Rattle.std.proofs.lemmas.List.{append_cancel_left}
use Rattle.std.proofs.lemmas.List.Folds.{list_any-append}
use Rattle.std.proofs.lemmas.Slice.Eq.{bytes_eq-Decides}
use Rattle.std.proofs.lemmas.Str.Parse.{digit_at}
use Rattle.std.specs.Str.Parse.{AllDigits}
use Rattle.oim_report.specs.declared.data.Column.{Column}
use Rattle.oim_names.specs.QName.{Lacks}

-- No byte of the text is a dot.
abbrev pub HasNoDot : List ℕ → Type 0
HasNoDot = Lacks 46

abbrev pub fact_id : List ℕ → List ℕ → List ℕ → List ℕ
fact_id table row column = table ++ codes "." ++ row ++ codes "." ++ column

-- No two columns share an identifier.
abbrev pub HasDistinctColumns : List Column → Type 0
HasDistinctColumns columns = IsDistinct bytes_eq (map (λ (c : Column). c.id) columns)

pub differing : (b : Bool) → b ≡ true → b ≡ false → ⊥
differing b t f = let no : true ≡ false = rw t at f in cc no

-- The text before the first dot is determined.
pub dot_seam : (a b c d : List ℕ) → HasNoDot a → HasNoDot c → a ++ 46 ∷ b ≡ c ++ 46 ∷ d → (a ≡ c) × (b ≡ d)
dot_seam [] b [] d ha hc e = (refl, cc)
dot_seam [] b (y ∷ ys) d ha hc e = let at : y ≡ 46 = cc in absurd (differing (y == 46) (eq-eqb y 46 at) hc.0)
dot_seam (x ∷ xs) b [] d ha hc e = let at : x ≡ 46 = cc in absurd (differing (x == 46) (eq-eqb x 46 at) ha.0)
dot_seam (x ∷ xs) b (y ∷ ys) d ha hc e =
    let rest : xs ++ 46 ∷ b ≡ ys ++ 46 ∷ d = cc in
    let first : x ≡ y = cc in
    let more = dot_seam xs b ys d ha.1 hc.1 rest in
    (rw (first, more.0) refl, more.1)

dotted : (table row column : List ℕ) → fact_id table row column ≡ table ++ (46 ∷ (row ++ (46 ∷ column)))
dotted table row column =
    let dot = 46 ∷ [] in
    append_assoc ((table ++ dot) ++ row) dot column ∙ append_assoc (table ++ dot) row (dot ++ column) ∙ append_assoc table dot (row ++ (dot ++ column))

pub ids_apart : (table r1 c1 r2 c2 : List ℕ) → HasNoDot r1 → HasNoDot r2 → fact_id table r1 c1 ≡ fact_id table r2 c2 → (r1 ≡ r2) × (c1 ≡ c2)
ids_apart table r1 c1 r2 c2 h1 h2 e =
    let cut : 46 ∷ (r1 ++ (46 ∷ c1)) ≡ 46 ∷ (r2 ++ (46 ∷ c2)) = append_cancel_left table (46 ∷ (r1 ++ (46 ∷ c1))) (46 ∷ (r2 ++ (46 ∷ c2))) (sym (dotted table r1 c1) ∙ e ∙ dotted table r2 c2) in
    let rest : r1 ++ (46 ∷ c1) ≡ r2 ++ (46 ∷ c2) = cc in
    dot_seam r1 c1 r2 c2 h1 h2 rest

pub tables_apart : (t1 r1 c1 t2 r2 c2 : List ℕ) → HasNoDot t1 → HasNoDot t2 → fact_id t1 r1 c1 ≡ fact_id t2 r2 c2 → t1 ≡ t2
tables_apart t1 r1 c1 t2 r2 c2 h1 h2 e = (dot_seam t1 (r1 ++ (46 ∷ c1)) t2 (r2 ++ (46 ∷ c2)) h1 h2 (sym (dotted t1 r1 c1) ∙ e ∙ dotted t2 r2 c2)).0

pub bytes_apart : (a b : List ℕ) → (a ≡ b → ⊥) → bytes_eq a b ≡ false
bytes_apart a b h = false_from_ne_true (bytes_eq a b) (λ t. h ((bytes_eq-Decides a b).0 t))

pub bytes_same : (a b : List ℕ) → a ≡ b → bytes_eq a b ≡ true
bytes_same a b e = (bytes_eq-Decides a b).1 e

-- A digit is not a dot.
digits-no_dot : (t : List ℕ) → AllDigits 10 t → HasNoDot t
digits-no_dot [] h = tt
digits-no_dot (b ∷ bs) h =
    let range = digit_at (b ∷ bs) 0 h (omega arith) in
    (false_from_ne_true (b == 46) (λ t. let at : b ≡ 46 = eqb-true b 46 t in let low : 48 ≤ b = range.0 in omega arith), digits-no_dot bs h.1)

pub numbered-no_dot : (n : ℕ) → n < 2 ^ 64 → HasNoDot (codes "r_" ++ decimal n)
numbered-no_dot n h = (refl, (refl, digits-no_dot (decimal n) ((decimal_is_IsNumeral n h).0).1))

pub all_append : {X : Type 0} (P : X → Type 0) (xs ys : List X) → AllByRecursion P xs → AllByRecursion P ys → AllByRecursion P (xs ++ ys)
all_append P [] ys a b = b
all_append P (x ∷ xs) ys a b = (a.0, all_append P xs ys a.1 b)

pub all_weaker : {X : Type 0} (P Q : X → Type 0) → ((x : X) → P x → Q x) → (xs : List X) → AllByRecursion P xs → AllByRecursion Q xs
all_weaker P Q h [] a = tt
all_weaker P Q h (x ∷ xs) a = (h x a.0, all_weaker P Q h xs a.1)

pub all_mapped : {X Y : Type 0} (f : X → Y) (P : Y → Type 0) (xs : List X) → AllByRecursion (λ x. P (f x)) xs → AllByRecursion P (map f xs)
all_mapped f P [] a = tt
all_mapped f P (x ∷ xs) a = (a.0, all_mapped f P xs a.1)

-- Columns with the same identifier have the same index.
id_at : (t : List ℕ) (columns : List Column) (i : ℕ) (x : Column) → AllByRecursion (λ k. bytes_eq t k ≡ false) (map (λ (c : Column). c.id) columns) → slice_get columns i ≡ Some x
    → bytes_eq t x.id ≡ false
id_at t [] i x h at = cc at
id_at t (c ∷ cs) zero x h at = let same : c ≡ x = cc in rw (← same) h.0
id_at t (c ∷ cs) (suc i) x h at = id_at t cs i x h.1 at

pub column_at : (columns : List Column) → HasDistinctColumns columns → (i j : ℕ) (x y : Column) → slice_get columns i ≡ Some x → slice_get columns j ≡ Some y → x.id ≡ y.id → i ≡ j
unfolding IsDistinct
column_at [] d i j x y ei ej e = cc ei
column_at (c ∷ cs) d zero zero x y ei ej e = refl
column_at (c ∷ cs) d zero (suc j) x y ei ej e =
    let same : c ≡ x = cc in
    absurd (differing (bytes_eq c.id y.id) (bytes_same c.id y.id (rw same e)) (id_at c.id cs j y d.0 ej))
column_at (c ∷ cs) d (suc i) zero x y ei ej e =
    let same : c ≡ y = cc in
    absurd (differing (bytes_eq c.id x.id) (bytes_same c.id x.id (rw same (sym e))) (id_at c.id cs i x d.0 ei))
column_at (c ∷ cs) d (suc i) (suc j) x y ei ej e = ap suc (column_at cs d.1 i j x y ei ej e)

pub or_true : (b : Bool) → (b || true) ≡ true
or_true true = refl
or_true false = refl

pub or_left : (a b : Bool) → (a || b) ≡ false → a ≡ false
or_left true b e = cc e
or_left false b e = refl

pub or_right : (a b : Bool) → (a || b) ≡ false → b ≡ false
or_right true b e = cc e
or_right false b e = e

-- The last item of a longer list.
pub any_last : {X : Type 0} (p : X → Bool) (xs : List X) (x : X) → p x ≡ true → list_any p (xs ++ x ∷ []) ≡ true
any_last p [] x e = rw e refl
any_last p (y ∷ ys) x e = rw (any_last p ys x e) (or_true (p y))

pub any_grown : {X : Type 0} (p : X → Bool) (xs : List X) (x : X) → list_any p xs ≡ true → list_any p (xs ++ x ∷ []) ≡ true
any_grown p xs x e = rw (list_any-append p xs (x ∷ []), e) refl

pub any_front : {X : Type 0} (p : X → Bool) (xs ys : List X) → list_any p (xs ++ ys) ≡ false → list_any p xs ≡ false
any_front p xs ys e = or_left (list_any p xs) (list_any p ys) (rw (list_any-append p xs ys) at e)

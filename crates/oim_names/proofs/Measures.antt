-- The grammar of units, and its functions.
use Rattle.std.proofs.Common.{◌≡◌, ℕ, ◌<◌, List, [], ◌∷◌, ◌++◌, refl, sym, ap, subst, ◌∙◌, arith, length, append_assoc, codes, Some, None, Option, Bool, true, false, ◌==◌, ◌&&◌, ◌||◌, is_some}
use Rattle.std.specs.List.{list_all, slice_split, join_with_byte}
use Rattle.std.specs.Str.{IsUtf8, bytes_eq}
use Rattle.std.proofs.lemmas.List.Elements.{All-from_recursion}
use Rattle.std.proofs.lemmas.List.Splits.{slice_split_none, slice_split_at, length-slice_split, join_with_byte-slice_split}
use Rattle.std.proofs.lemmas.Bool.{eq-eqb}
use Rattle.std.proofs.lemmas.Slice.Eq.{bytes_eq-Decides}
use Rattle.oim_names.specs.Names.{is_name_start, is_name_char, is_ncname}
use Rattle.oim_names.specs.Bindings.{Bindings, uri_of}
use Rattle.oim_names.specs.QName.{Name, Lacks, IsQName, qname, qname_of}
use Rattle.oim_names.specs.Unit.{IsProduct, measure, product, IsSide, bare, bracketed, IsUnit, whole, quotient, HasMeasures, IsPure, pure_name, is_bracketed, inside}
use Rattle.oim_names.specs.Unit.{are_measures, is_side, above_of, below_of, is_unit, is_pure_name}
use Rattle.oim_names.proofs.Cut.{before_mark, after_mark, name_lacks, front_is_text, rest_is_text}
use Rattle.oim_names.proofs.Colons.{of_qname, has_mark, qname_value, qname_sound, qname_uncut}
use Rattle.oim_names.proofs.Parentheses.{bracketed_is, inside_brackets, inside_other, inside_lacks}
use Rattle.oim_names.proofs.Truth.{both_true, two_true, or_false, both_false, or_true}

lacks_joined : (m : ℕ) (s t : List ℕ) → Lacks m s → Lacks m t → Lacks m (s ++ t)
lacks_joined m [] t h k = k
lacks_joined m (c ∷ s) t h k = (h.0, lacks_joined m s t h.1 k)

-- A mark that a QName cannot contain.
abbrev IsMark : ℕ → Type 0
IsMark m = (m < 128) × (is_name_char m ≡ false) × ((58 == m) ≡ false)

opening : IsMark 40
unfolding is_name_char is_name_start
opening = (omega arith, refl, refl)

star : IsMark 42
unfolding is_name_char is_name_start
star = (omega arith, refl, refl)

slash : IsMark 47
unfolding is_name_char is_name_start
slash = (omega arith, refl, refl)

qname_lacks : (m : ℕ) → IsMark m → {b : Bindings} {t : List ℕ} {x : Name} → IsQName b t x → IsUtf8 t → Lacks m t
qname_lacks m k {b} {t} {x} q u =
    let i = of_qname q in
    let f = front_is_text 58 t i.0 x.1 (omega arith) u i.1 in
    let r = rest_is_text 58 t i.0 x.1 (omega arith) u i.1 in
    subst (Lacks m) (sym i.1) (lacks_joined m i.0 (58 ∷ x.1) (name_lacks m i.0 k.0 k.1 f i.2) (k.2, name_lacks m x.1 k.0 k.1 r i.3))

product_lacks : (m : ℕ) → IsMark m → (42 == m) ≡ false → {b : Bindings} {t : List ℕ} {ns : List Name} → IsProduct b t ns → IsUtf8 t → Lacks m t
product_lacks m k n (measure b t x q) u = qname_lacks m k q u
product_lacks m k n (product b s t x more q r) u =
    let e = append_assoc s (codes "*") t in
    let v = subst IsUtf8 e u in
    subst (Lacks m) (sym e) (lacks_joined m s (42 ∷ t) (qname_lacks m k q (front_is_text 42 (s ++ 42 ∷ t) s t (omega arith) v refl))
    (n, product_lacks m k n r (rest_is_text 42 (s ++ 42 ∷ t) s t (omega arith) v refl)))

abbrev is_measure : Bindings → List ℕ → Bool
is_measure b text = is_some (qname_of b text)

product_complete : {b : Bindings} {t : List ℕ} {ns : List Name} → IsProduct b t ns → IsUtf8 t → are_measures b t ≡ true
product_complete (measure b t x q) u =
    let e = slice_split_none (λ c. c == 42) t (All-from_recursion (λ c. (c == 42) ≡ false) t (qname_lacks 42 star q u)) in
    ap (list_all (is_measure b)) e ∙ both_true (is_measure b t) true (ap is_some (qname_value b t x u q)) refl
product_complete (product b s t x more q r) u =
    let e = append_assoc s (codes "*") t in
    let v = subst IsUtf8 e u in
    let f = front_is_text 42 (s ++ 42 ∷ t) s t (omega arith) v refl in
    let w = rest_is_text 42 (s ++ 42 ∷ t) s t (omega arith) v refl in
    let p = slice_split_at (λ c. c == 42) s 42 t (All-from_recursion (λ c. (c == 42) ≡ false) s (qname_lacks 42 star q f)) refl in
    ap (are_measures b) e ∙ ap (list_all (is_measure b)) p ∙ both_true (is_measure b s) (are_measures b t) (ap is_some (qname_value b s x f q)) (product_complete r w)

-- A measure before the first `*`: the text has measures if the text after the `*` has.
pub measures_behind : (b : Bindings) (t p o l r : List ℕ) → IsUtf8 t → t ≡ p ++ 58 ∷ o → is_ncname p ≡ true → o ≡ l ++ 42 ∷ r → is_ncname l ≡ true
    → is_some (uri_of b p) ≡ true → are_measures b t ≡ are_measures b r
measures_behind b t p o l r u e n f m k = by (uri_of b p) refl k
  where
    name : List ℕ
    name = (p ++ codes ":") ++ l

    named : name ≡ p ++ 58 ∷ l
    named = append_assoc p (codes ":") l

    same : t ≡ name ++ 42 ∷ r
    same = e ∙ ap (λ s. p ++ 58 ∷ s) f ∙ sym (append_assoc p (58 ∷ l) (42 ∷ r)) ∙ ap (λ s. s ++ 42 ∷ r) (sym named)

    front : IsUtf8 name
    front = front_is_text 42 t name r (omega arith) u same

    by : (o : Option (List ℕ)) → uri_of b p ≡ o → is_some o ≡ true → are_measures b t ≡ are_measures b r
    by None i k = absurd (cc)
    by (Some x) i k =
        let q : IsQName b name (x, l) = qname b p l x n m i in
        let cut = slice_split_at (λ c. c == 42) name 42 r (All-from_recursion (λ c. (c == 42) ≡ false) name (qname_lacks 42 star q front)) refl in
        ap (are_measures b) same ∙ ap (list_all (is_measure b)) cut ∙ ap (λ d. d && are_measures b r) (ap is_some (qname_value b name (x, l) front q))

measure_named : (b : Bindings) (t : List ℕ) → is_measure b t ≡ true → (x : Name) × IsQName b t x
measure_named b t h = by (qname_of b t) refl h
  where
    by : (o : Option Name) → qname_of b t ≡ o → is_some o ≡ true → (x : Name) × IsQName b t x
    by (Some x) e k = (x, qname_sound b t x e)
    by None e k = absurd (cc)

joined_product : (b : Bindings) (ps : List (List ℕ)) → list_all (is_measure b) ps ≡ true → 0 < length ps → (ns : List Name) × IsProduct b (join_with_byte 42 ps) ns
joined_product b [] h l = absurd (omega arith)
joined_product b (p ∷ []) h l =
    let m = measure_named b p (two_true (is_measure b p) true h).0 in
    (m.0 ∷ [], measure b p m.0 m.1)
joined_product b (p ∷ q ∷ ps) h l =
    let k = two_true (is_measure b p) (list_all (is_measure b) (q ∷ ps)) h in
    let m = measure_named b p k.0 in
    let r = joined_product b (q ∷ ps) k.1 (omega arith) in
    let t = join_with_byte 42 (q ∷ ps) in
    (m.0 ∷ r.0, subst (λ w. IsProduct b w (m.0 ∷ r.0)) (append_assoc p (codes "*") t) (product b p t m.0 r.0 m.1 r.1))

product_sound : (b : Bindings) (t : List ℕ) → are_measures b t ≡ true → (ns : List Name) × IsProduct b t ns
product_sound b t h =
    let r = joined_product b (slice_split (λ c. c == 42) t) h (omega (arith, length-slice_split (λ c. c == 42) t)) in
    (r.0, subst (λ w. IsProduct b w r.0) (join_with_byte-slice_split 42 t) r.1)

-- The grammar of sides and its test.
side_of_product : (b : Bindings) (t : List ℕ) (ns : List Name) → IsProduct b (inside t) ns → IsSide b t ns
side_of_product b t ns p = by (is_bracketed t) refl
  where
    by : (k : Bool) → is_bracketed t ≡ k → IsSide b t ns
    by true e = subst (λ w. IsSide b w ns) (sym (bracketed_is t e)) (bracketed b (inside t) ns p)
    by false e = bare b t ns (subst (λ w. IsProduct b w ns) (inside_other t (λ k. absurd (cc))) p)

side_sound : (b : Bindings) (t : List ℕ) → is_side b t ≡ true → (ns : List Name) × IsSide b t ns
side_sound b t h = let r = product_sound b (inside t) h in (r.0, side_of_product b t r.0 r.1)

-- The bytes in parentheses are a text.
middle_is_text : (s : List ℕ) → IsUtf8 (40 ∷ (s ++ 41 ∷ [])) → IsUtf8 s
middle_is_text s u = front_is_text 41 (s ++ 41 ∷ []) s [] (omega arith) (rest_is_text 40 (40 ∷ (s ++ 41 ∷ [])) [] (s ++ 41 ∷ []) (omega arith) u refl) refl

product_of_side : {b : Bindings} {t : List ℕ} {ns : List Name} → IsSide b t ns → IsUtf8 t → IsProduct b (inside t) ns × IsUtf8 (inside t)
product_of_side (bare b t ns p) u =
    let e = inside_lacks t (product_lacks 40 opening refl p u) in
    (subst (λ w. IsProduct b w ns) (sym e) p, subst IsUtf8 (sym e) u)
product_of_side (bracketed b s ns p) u =
    let e = inside_brackets s in
    (subst (λ w. IsProduct b w ns) (sym e) p, subst IsUtf8 (sym e) (middle_is_text s u))

side_complete : {b : Bindings} {t : List ℕ} {ns : List Name} → IsSide b t ns → IsUtf8 t → is_side b t ≡ true
side_complete s u = let p = product_of_side s u in product_complete p.0 p.1

side_lacks : {b : Bindings} {t : List ℕ} {ns : List Name} → IsSide b t ns → IsUtf8 t → Lacks 47 t
side_lacks (bare b t ns p) u = product_lacks 47 slash refl p u
side_lacks (bracketed b s ns p) u = (refl, lacks_joined 47 s (41 ∷ []) (product_lacks 47 slash refl p (middle_is_text s u)) (refl, tt))

-- The grammar of units and its test.
empty_is_no_side : (b : Bindings) → is_side b [] ≡ false
empty_is_no_side b = let e : is_some (qname_of b []) ≡ false = ap is_some (sym (qname_uncut b [] refl)) in rw e refl

pair_is : (a b c d : List ℕ) → a ≡ c → b ≡ d → ◌≡◌ {A = List ℕ × List ℕ} (a, b) (c, d)
pair_is a b c d e f = rw (e, f) refl

pub unit_complete : {b : Bindings} {t : List ℕ} {above below : List Name} → IsUnit b t above below → IsUtf8 t → is_unit b t ≡ true
unit_complete (whole b t ns s) u = rw (side_complete s u) refl
unit_complete (quotient b s t above below p q) u =
    let e = append_assoc s (codes "/") t in
    let v = subst IsUtf8 e u in
    let f = front_is_text 47 (s ++ 47 ∷ t) s t (omega arith) v refl in
    let w = rest_is_text 47 (s ++ 47 ∷ t) s t (omega arith) v refl in
    let l = side_lacks p f in
    let x : is_side b (above_of (s ++ 47 ∷ t)) ≡ true = ap (is_side b) (before_mark 47 s t l) ∙ side_complete p f in
    let y : is_side b (below_of (s ++ 47 ∷ t)) ≡ true = ap (is_side b) (after_mark 47 s t l) ∙ side_complete q w in
    ap (is_unit b) e ∙ ap (λ k. is_side b (s ++ 47 ∷ t) || k) (both_true (is_side b (above_of (s ++ 47 ∷ t))) (is_side b (below_of (s ++ 47 ∷ t))) x y) ∙ or_true (is_side b (s ++ 47 ∷ t))

pub unit_sound : (b : Bindings) (t : List ℕ) → is_unit b t ≡ true → HasMeasures b t
unit_sound b t h = by (is_side b t) refl h
  where
    by : (k : Bool) → is_side b t ≡ k → (k || (is_side b (above_of t) && is_side b (below_of t))) ≡ true → HasMeasures b t
    by true e i = let r = side_sound b t e in (r.0, [], whole b t r.0 r.1)
    by false e i =
        let d = two_true (is_side b (above_of t)) (is_side b (below_of t)) i in
        let a = side_sound b (above_of t) d.0 in
        let z = side_sound b (below_of t) d.1 in
        let n = λ (k : below_of t ≡ []). (let w : true ≡ false = sym d.1 ∙ ap (is_side b) k ∙ empty_is_no_side b in absurd (cc)) in
        let m : (above_of t ++ codes "/") ++ below_of t ≡ t = append_assoc (above_of t) (codes "/") (below_of t) ∙ sym (has_mark 47 t n) in
        (a.0, z.0, subst (λ w. IsUnit b w a.0 z.0) m (quotient b (above_of t) (below_of t) a.0 z.0 a.1 z.1))

-- The code's two cases: a text that is cut at a `/`, and a text without one.
lacks_not : (m : ℕ) (s t : List ℕ) → Lacks m (s ++ m ∷ t) → ⊥
lacks_not m [] t h = let e = eq-eqb m m refl in absurd (cc (e, h.0))
lacks_not m (c ∷ s) t h = lacks_not m s t h.1

no_side : (b : Bindings) (t s r : List ℕ) → IsUtf8 t → t ≡ s ++ 47 ∷ r → is_side b t ≡ false
no_side b t s r u e = by (is_side b t) refl
  where
    by : (k : Bool) → is_side b t ≡ k → k ≡ false
    by false h = refl
    by true h = absurd (lacks_not 47 s r (subst (Lacks 47) e (side_lacks (side_sound b t h).1 u)))

pub unit_cut : (b : Bindings) (t s r : List ℕ) → IsUtf8 t → t ≡ s ++ 47 ∷ r → s ≡ above_of t → r ≡ below_of t → (is_side b s && is_side b r) ≡ is_unit b t
unit_cut b t s r u e f g =
    ap (λ k. k || (is_side b s && is_side b r)) (sym (no_side b t s r u e))
    ∙ ap (λ (p : List ℕ × List ℕ). is_side b t || (is_side b p.0 && is_side b p.1)) (pair_is s r (above_of t) (below_of t) f g)

pub unit_uncut : (b : Bindings) (t : List ℕ) → below_of t ≡ [] → is_side b t ≡ is_unit b t
unit_uncut b t e =
    let n : is_side b (below_of t) ≡ false = ap (is_side b) e ∙ empty_is_no_side b in
    sym (ap (λ k. is_side b t || (is_side b (above_of t) && k)) n ∙ ap (λ k. is_side b t || k) (both_false (is_side b (above_of t))) ∙ or_false (is_side b t))

-- The unit of pure numbers.
same_name : (x : Name) → (bytes_eq x.0 pure_name.0 && bytes_eq x.1 pure_name.1) ≡ true → x ≡ pure_name
same_name x h =
    let d = two_true (bytes_eq x.0 pure_name.0) (bytes_eq x.1 pure_name.1) h in
    let e : x.0 ≡ pure_name.0 = (bytes_eq-Decides x.0 pure_name.0).0 d.0 in
    let f : x.1 ≡ pure_name.1 = (bytes_eq-Decides x.1 pure_name.1).0 d.1 in
    rw (e, f) refl

pub pure_sound : (b : Bindings) (t : List ℕ) → is_pure_name (qname_of b (inside t)) ≡ true → IsPure b t
pure_sound b t h = by (qname_of b (inside t)) refl h
  where
    by : (o : Option Name) → qname_of b (inside t) ≡ o → is_pure_name o ≡ true → IsPure b t
    by None e k = absurd (cc)
    by (Some x) e k =
        let q = subst (IsQName b (inside t)) (same_name x k) (qname_sound b (inside t) x e) in
        whole b t (pure_name ∷ []) (side_of_product b t (pure_name ∷ []) (measure b (inside t) pure_name q))

product_some : {b : Bindings} {t : List ℕ} {ns : List Name} → IsProduct b t ns → ns ≡ [] → ⊥
product_some (measure b t x q) e = absurd (cc)
product_some (product b s t x more q r) e = absurd (cc)

product_one : {b : Bindings} {t : List ℕ} {ns : List Name} → IsProduct b t ns → (x : Name) → ns ≡ x ∷ [] → IsQName b t x
product_one (measure b t y q) x e = let s : y ≡ x = cc in subst (IsQName b t) s q
product_one (product b s t y more q r) x e = let m : more ≡ [] = cc in absurd (product_some r m)

side_some : {b : Bindings} {t : List ℕ} {ns : List Name} → IsSide b t ns → ns ≡ [] → ⊥
side_some (bare b t ns p) e = product_some p e
side_some (bracketed b s ns p) e = product_some p e

unit_whole : {b : Bindings} {t : List ℕ} {above below : List Name} → IsUnit b t above below → below ≡ [] → IsSide b t above
unit_whole (whole b t ns s) e = s
unit_whole (quotient b s t above below p q) e = absurd (side_some q e)

pub pure_complete : (b : Bindings) (t : List ℕ) → IsPure b t → IsUtf8 t → is_pure_name (qname_of b (inside t)) ≡ true
pure_complete b t h u =
    let p = product_of_side (unit_whole h refl) u in
    ap is_pure_name (qname_value b (inside t) pure_name p.1 (product_one p.0 pure_name refl))

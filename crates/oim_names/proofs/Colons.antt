-- The grammars of qualified names, and their functions.
use Rattle.std.proofs.Common.{◌≡◌, ◌⊎◌, inl, inr, ℕ, zero, suc, ◌+◌, ◌<◌, ◌≤◌, List, [], ◌∷◌, ◌++◌, take, refl, sym, ap, subst, ◌∙◌, arith, length, get_or, append_assoc}
use Rattle.std.proofs.Common.{codes, Some, None, Option, Bool, true, false, not, ◌==◌, ◌&&◌, cond}
use Rattle.std.specs.List.{position_or_len, before_first, after_first}
use Rattle.std.specs.Option.{option_map}
use Rattle.std.specs.Str.{IsUtf8, is_utf8}
use Rattle.std.proofs.lemmas.Bool.{eqb-true, cases_lt}
use Rattle.std.proofs.Math.ListN.{drop_of_length-le}
use Rattle.std.proofs.lemmas.List.Sums.{split_at_first, passes_at_first}
use Rattle.std.proofs.lemmas.Str.{chars-nil}
use Rattle.oim_names.specs.Names.{is_name_start, is_name_char, is_ncname}
use Rattle.oim_names.specs.Bindings.{Bindings, uri_of}
use Rattle.oim_names.specs.QName.{Name, Lacks, IsQName, IsSQName, IsOnly, qname, sqname, prefix_of, local_of, is_solid, qname_of, sqname_of}
use Rattle.oim_names.proofs.Cut.{before_mark, after_mark, name_lacks, front_is_text}
use Rattle.oim_names.proofs.Truth.{both_false}

-- A relation whose values a function gives has only that value.
pub only_from : {A : Type 0} (P : A → Type 0) (o : Option A) → ((x : A) → o ≡ Some x → P x) → ((x : A) → P x → o ≡ Some x) → IsOnly P o
only_from P None s w = λ x p. let e = w x p in absurd (cc)
only_from P (Some y) s w = (s y refl, λ x p. let e = w x p in cc)

colon_is_no_name : is_name_char 58 ≡ false
unfolding is_name_char is_name_start
colon_is_no_name = refl

empty_is_no_name : is_ncname [] ≡ false
unfolding is_ncname
empty_is_no_name = rw chars-nil (both_false (is_utf8 []))

empty_is_not_solid : is_solid [] ≡ false
empty_is_not_solid = refl

pub no_rest : (m : ℕ) (t : List ℕ) → length t ≤ position_or_len (λ c. c == m) t → after_first (λ c. c == m) t ≡ []
no_rest m t h = drop_of_length-le t (omega (arith, h))

-- A text whose part after the mark is not empty contains the mark.
pub has_mark : (m : ℕ) (t : List ℕ) → (after_first (λ c. c == m) t ≡ [] → ⊥) → t ≡ before_first (λ c. c == m) t ++ m ∷ after_first (λ c. c == m) t
has_mark m t n = by (cases_lt (position_or_len p t) (length t))
  where
    p : ℕ → Bool
    p c = c == m

    by : (position_or_len p t < length t) ⊎ (length t ≤ position_or_len p t) → t ≡ before_first p t ++ m ∷ after_first p t
    by (inl l) = split_at_first p t 0 l ∙ ap (λ c. before_first p t ++ c ∷ after_first p t) (eqb-true (get_or t (position_or_len p t) 0) m (passes_at_first p t 0 l))
    by (inr l) = absurd (n (no_rest m t l))

colon_text : (t : List ℕ) → (local_of t ≡ [] → ⊥) → (prefix_of t ++ codes ":") ++ local_of t ≡ t
colon_text t n = append_assoc (prefix_of t) (codes ":") (local_of t) ∙ sym (has_mark 58 t n)

-- The text before the first mark does not contain it.
taken_lacks : (m : ℕ) (s : List ℕ) (n : ℕ) → n ≤ position_or_len (λ c. c == m) s → Lacks m (take n s)
taken_lacks m s zero h = tt
taken_lacks m [] (suc n) h = tt
taken_lacks m (c ∷ s) (suc n) h = by (c == m) refl h (λ k. taken_lacks m s n k)
  where
    by : (b : Bool) → (c == m) ≡ b → suc n ≤ cond (not b) (1 + position_or_len (λ c. c == m) s) 0 → (n ≤ position_or_len (λ c. c == m) s → Lacks m (take n s)) → Lacks m (c ∷ take n s)
    by true e k r = absurd (omega arith)
    by false e k r = (e, r (omega arith))

prefix_lacks : (t : List ℕ) → (local_of t ≡ [] → ⊥) → Lacks 58 (prefix_of t)
prefix_lacks t n = taken_lacks 58 t (position_or_len (λ c. c == 58) t) (omega arith)

-- The parts of a qualified name.
pub of_qname : {b : Bindings} {t : List ℕ} {x : Name} → IsQName b t x → (p : List ℕ) × (t ≡ p ++ 58 ∷ x.1) × (is_ncname p ≡ true) × (is_ncname x.1 ≡ true) × (uri_of b p ≡ Some x.0)
of_qname (qname b p l u n m e) = (p, append_assoc p (codes ":") l, n, m, e)

of_sqname : {b : Bindings} {t : List ℕ} {x : Name} → IsSQName b t x → (p : List ℕ) × (t ≡ p ++ 58 ∷ x.1) × Lacks 58 p × (is_solid x.1 ≡ true) × (uri_of b p ≡ Some x.0)
of_sqname (sqname b p r u n m e) = (p, append_assoc p (codes ":") r, n, m, e)

-- The two functions, for known parts.
pub qname_cut : (b : Bindings) (t p l : List ℕ) → p ≡ prefix_of t → l ≡ local_of t → cond (is_ncname p && is_ncname l) (option_map (λ uri. (uri, l)) (uri_of b p)) None ≡ qname_of b t
unfolding qname_of
qname_cut b t p l e f = rw (e, f) refl

pub sqname_cut : (b : Bindings) (t p l : List ℕ) → p ≡ prefix_of t → l ≡ local_of t → cond (is_solid l) (option_map (λ uri. (uri, l)) (uri_of b p)) None ≡ sqname_of b t
unfolding sqname_of
sqname_cut b t p l e f = rw (e, f) refl

pub qname_uncut : (b : Bindings) (t : List ℕ) → position_or_len (λ c. c == 58) t ≡ length t → None ≡ qname_of b t
unfolding qname_of
qname_uncut b t e =
    let n : is_ncname (local_of t) ≡ false = ap is_ncname (no_rest 58 t (omega (arith, e))) ∙ empty_is_no_name in
    rw n (rw (both_false (is_ncname (prefix_of t))) refl)

pub sqname_uncut : (b : Bindings) (t : List ℕ) → position_or_len (λ c. c == 58) t ≡ length t → None ≡ sqname_of b t
unfolding sqname_of
sqname_uncut b t e = rw (no_rest 58 t (omega (arith, e))) refl

-- A qualified name has the value of the function.
pub qname_value : (b : Bindings) (t : List ℕ) (x : Name) → IsUtf8 t → IsQName b t x → qname_of b t ≡ Some x
qname_value b t x u q =
    let i = of_qname q in
    let k = name_lacks 58 i.0 (omega arith) colon_is_no_name (front_is_text 58 t i.0 x.1 (omega arith) u i.1) i.2 in
    let p : i.0 ≡ prefix_of t = sym (ap prefix_of i.1 ∙ before_mark 58 i.0 x.1 k) in
    let l : x.1 ≡ local_of t = sym (ap local_of i.1 ∙ after_mark 58 i.0 x.1 k) in
    sym (qname_cut b t i.0 x.1 p l) ∙ rw (i.2, i.3, i.4) refl

pub sqname_value : (b : Bindings) (t : List ℕ) (x : Name) → IsSQName b t x → sqname_of b t ≡ Some x
sqname_value b t x q =
    let i = of_sqname q in
    let p : i.0 ≡ prefix_of t = sym (ap prefix_of i.1 ∙ before_mark 58 i.0 x.1 i.2) in
    let l : x.1 ≡ local_of t = sym (ap local_of i.1 ∙ after_mark 58 i.0 x.1 i.2) in
    sym (sqname_cut b t i.0 x.1 p l) ∙ rw (i.3, i.4) refl

-- The value of the function is a value of the qualified name.
pub qname_sound : (b : Bindings) (t : List ℕ) (x : Name) → qname_of b t ≡ Some x → IsQName b t x
unfolding qname_of
qname_sound b t x e = by (is_ncname (prefix_of t)) (is_ncname (local_of t)) (uri_of b (prefix_of t)) refl refl refl e
  where
    by : (n m : Bool) (o : Option (List ℕ)) → is_ncname (prefix_of t) ≡ n → is_ncname (local_of t) ≡ m → uri_of b (prefix_of t) ≡ o
        → cond (n && m) (option_map (λ uri. (uri, local_of t)) o) None ≡ Some x → IsQName b t x
    by true true (Some u) n m o r =
        let s : (u, local_of t) ≡ x = cc in
        let k = λ (e : local_of t ≡ []). (let w : true ≡ false = sym m ∙ ap is_ncname e ∙ empty_is_no_name in absurd (cc)) in
        subst (IsQName b t) s (subst (λ w. IsQName b w (u, local_of t)) (colon_text t k) (qname b (prefix_of t) (local_of t) u n m o))
    by true true None n m o r = absurd (cc)
    by true false o n m e r = absurd (cc)
    by false m o n k e r = absurd (cc)

pub sqname_sound : (b : Bindings) (t : List ℕ) (x : Name) → sqname_of b t ≡ Some x → IsSQName b t x
unfolding sqname_of
sqname_sound b t x e = by (is_solid (local_of t)) (uri_of b (prefix_of t)) refl refl e
  where
    by : (m : Bool) (o : Option (List ℕ)) → is_solid (local_of t) ≡ m → uri_of b (prefix_of t) ≡ o → cond m (option_map (λ uri. (uri, local_of t)) o) None ≡ Some x → IsSQName b t x
    by true (Some u) m o r =
        let s : (u, local_of t) ≡ x = cc in
        let k = λ (e : local_of t ≡ []). (let w : true ≡ false = sym m ∙ ap is_solid e in absurd (cc)) in
        subst (IsSQName b t) s (subst (λ w. IsSQName b w (u, local_of t)) (colon_text t k) (sqname b (prefix_of t) (local_of t) u (prefix_lacks t k) m o))
    by true None m o r = absurd (cc)
    by false o m e r = absurd (cc)

-- So each grammar has at most one value, that of its function.
pub qname_only : (b : Bindings) (t : List ℕ) → IsUtf8 t → IsOnly {A = Name} (λ x. IsQName b t x) (qname_of b t)
qname_only b t u = only_from (λ x. IsQName b t x) (qname_of b t) (λ x e. qname_sound b t x e) (λ x q. qname_value b t x u q)

pub sqname_only : (b : Bindings) (t : List ℕ) → IsOnly {A = Name} (λ x. IsSQName b t x) (sqname_of b t)
sqname_only b t = only_from (λ x. IsSQName b t x) (sqname_of b t) (λ x e. sqname_sound b t x e) (λ x q. sqname_value b t x q)

-- A text in one pair of parentheses.
use Rattle.std.proofs.Common.{◌≡◌, ℕ, suc, ◌-◌, ◌<◌, List, [], ◌∷◌, ◌++◌, take, drop, length-append, refl, sym, ap, subst, ◌∙◌, arith, length, get_or, Bool, true, false, ◌==◌, cond}
use Rattle.std.proofs.lemmas.Bool.{eqb-true}
use Rattle.std.proofs.Math.Seq.{take-append_seam, get_or-append_seam, take-suc, take-length}
use Rattle.oim_names.specs.QName.{Lacks}
use Rattle.oim_names.specs.Unit.{is_bracketed, inside}
use Rattle.oim_names.proofs.Truth.{two_true}

-- A list is its prefix and its last item.
last_apart : (cs : List ℕ) → 0 < length cs → cs ≡ take (length cs - 1) cs ++ (get_or cs (length cs - 1) 0 ∷ [])
last_apart cs h =
    let n : suc (length cs - 1) ≡ length cs = omega (arith, h) in
    sym (take-length cs) ∙ ap (λ k. take k cs) (sym n) ∙ take-suc cs (length cs - 1) 0 (omega (arith, h))

-- A bracketed text is the text inside it, in parentheses.
pub bracketed_is : (t : List ℕ) → is_bracketed t ≡ true → t ≡ 40 ∷ (inside t ++ 41 ∷ [])
bracketed_is [] e = absurd (cc)
bracketed_is (c ∷ []) e =
    let b = two_true (c == 40) (get_or (c ∷ []) (length (c ∷ []) - 1) 0 == 41) e in
    absurd (omega (arith, eqb-true c 40 b.0, eqb-true c 41 b.1))
bracketed_is (c ∷ d ∷ ds) e =
    let t = c ∷ d ∷ ds in
    let cs = d ∷ ds in
    let b = two_true (c == 40) (get_or t (length t - 1) 0 == 41) e in
    let i : length t - 1 ≡ suc (length cs - 1) = omega arith in
    let l : get_or cs (length cs - 1) 0 ≡ 41 = ap (λ k. get_or t k 0) (sym i) ∙ eqb-true (get_or t (length t - 1) 0) 41 b.1 in
    let k : length t - 2 ≡ length cs - 1 = omega arith in
    let f : inside t ≡ take (length cs - 1) cs = ap (λ r. cond r (take (length t - 2) cs) t) e ∙ ap (λ n. take n cs) k in
    let s : cs ≡ take (length cs - 1) cs ++ 41 ∷ [] = last_apart cs (omega arith) ∙ ap (λ x. take (length cs - 1) cs ++ x ∷ []) l in
    ap (λ x. x ∷ cs) (eqb-true c 40 b.0) ∙ ap (λ xs. 40 ∷ xs) (s ∙ ap (λ xs. xs ++ 41 ∷ []) (sym f))

-- A text in parentheses is bracketed.
bracketed_text : (s : List ℕ) → is_bracketed (40 ∷ (s ++ 41 ∷ [])) ≡ true
bracketed_text s =
    let n : length (40 ∷ (s ++ 41 ∷ [])) - 1 ≡ suc (length s) = omega (arith, length-append s (41 ∷ [])) in
    rw n (rw (get_or-append_seam s 41 [] 0) refl)

pub inside_brackets : (s : List ℕ) → inside (40 ∷ (s ++ 41 ∷ [])) ≡ s
inside_brackets s =
    let n : length (40 ∷ (s ++ 41 ∷ [])) - 2 ≡ length s = omega (arith, length-append s (41 ∷ [])) in
    ap (λ b. cond b (take (length (40 ∷ (s ++ 41 ∷ [])) - 2) (s ++ 41 ∷ [])) (40 ∷ (s ++ 41 ∷ []))) (bracketed_text s)
    ∙ ap (λ k. take k (s ++ 41 ∷ [])) n ∙ take-append_seam s (41 ∷ [])

-- Any other text is unchanged.
pub inside_other : (t : List ℕ) → (is_bracketed t ≡ true → ⊥) → inside t ≡ t
inside_other t n = by (is_bracketed t) refl
  where
    by : (b : Bool) → is_bracketed t ≡ b → cond b (take (length t - 2) (drop 1 t)) t ≡ t
    by true e = absurd (n e)
    by false e = refl

pub inside_lacks : (t : List ℕ) → Lacks 40 t → inside t ≡ t
inside_lacks t h = inside_other t (λ e. let s = subst (Lacks 40) (bracketed_is t e) h in absurd (cc))

-- Texts that are cut at a mark, and the marks that names cannot contain.
use Rattle.std.proofs.Common.{◌≡◌, ◌≢◌, ℕ, suc, ◌+◌, ◌<◌, List, [], ◌∷◌, ◌++◌, take, drop, length-append, refl, sym, ap, subst, ◌∙◌, arith, length, get_or, Bool, true, false, not, ◌==◌, ◌&&◌}
use Rattle.std.specs.List.{list_all, position_or_len, before_first, after_first}
use Rattle.std.specs.Str.{chars, IsUtf8, is_utf8, NonePass, NoCharPasses}
use Rattle.std.proofs.lemmas.Bool.{eqb-true, eq-eqb}
use Rattle.std.proofs.lemmas.Str.{encodes-chars, IsUtf8-from_is_utf8, IsUtf8-take, IsUtf8-drop, IsCharBoundary-before_ascii, IsCharBoundary-after_ascii}
use Rattle.std.proofs.lemmas.Str.Pattern.{NoCharPasses-char}
use Rattle.std.proofs.Math.Seq.{take-append_seam, get_or-append_seam, drop-append-add}
use Rattle.oim_names.specs.Names.{is_name_start, is_name_char, is_plain_char, is_ncname, is_identifier, is_row_identifier, begins_and_goes_on}
use Rattle.oim_names.specs.QName.{Lacks}
use Rattle.oim_names.proofs.Truth.{two_true}

pub eqb_of : (a b : ℕ) → (a ≡ b → ⊥) → (a == b) ≡ false
eqb_of a b n = by (a == b) refl
  where
    by : (r : Bool) → (a == b) ≡ r → r ≡ false
    by true e = absurd (n (eqb-true a b e))
    by false e = refl

lacks_by_index : (m : ℕ) (s : List ℕ) → ((i : ℕ) → i < length s → get_or s i 0 ≢ m) → Lacks m s
lacks_by_index m [] h = tt
lacks_by_index m (c ∷ s) h = (eqb_of c m (h 0 (omega arith)), lacks_by_index m s (λ i l. h (suc i) (omega arith)))

-- The first mark of a text whose part before it does not contain the mark.
place_of_mark : (m : ℕ) (s t : List ℕ) → Lacks m s → position_or_len (λ c. c == m) (s ++ m ∷ t) ≡ length s
place_of_mark m [] t h = rw (eq-eqb m m refl) refl
place_of_mark m (c ∷ s) t h = rw (h.0) (let e = place_of_mark m s t h.1 in omega (arith, e))

pub before_mark : (m : ℕ) (s t : List ℕ) → Lacks m s → before_first (λ c. c == m) (s ++ m ∷ t) ≡ s
before_mark m s t h = ap (λ n. take n (s ++ m ∷ t)) (place_of_mark m s t h) ∙ take-append_seam s (m ∷ t)

pub after_mark : (m : ℕ) (s t : List ℕ) → Lacks m s → after_first (λ c. c == m) (s ++ m ∷ t) ≡ t
after_mark m s t h = ap (λ n. drop (n + 1) (s ++ m ∷ t)) (place_of_mark m s t h) ∙ drop-append-add s (m ∷ t) 1

-- Each character of a name is one that a name may contain.
marks_differ : (m c : ℕ) → is_name_char m ≡ false → is_name_char c ≡ true → (c == m) ≡ false
marks_differ m c f h = eqb_of c m (λ e. let k : is_name_char m ≡ true = ap is_name_char (sym e) ∙ h in absurd (cc))

starts_stand : (c : ℕ) → is_name_start c ≡ true → is_name_char c ≡ true
unfolding is_name_char
starts_stand c h = rw h refl

none_pass : (m : ℕ) (cs : List ℕ) → is_name_char m ≡ false → list_all is_name_char cs ≡ true → NonePass (λ c. c == m) cs
none_pass m [] f h = tt
none_pass m (c ∷ cs) f h = by (is_name_char c) refl h (λ k. none_pass m cs f k)
  where
    by : (b : Bool) → is_name_char c ≡ b → (b && list_all is_name_char cs) ≡ true → (list_all is_name_char cs ≡ true → NonePass (λ c. c == m) cs) → NonePass (λ c. c == m) (c ∷ cs)
    by true e k r = (marks_differ m c f e, r k)
    by false e k r = absurd (cc)

name_passes : (m : ℕ) (cs : List ℕ) → is_name_char m ≡ false → begins_and_goes_on is_name_start is_name_char cs ≡ true → NonePass (λ c. c == m) cs
name_passes m [] f h = absurd (cc)
name_passes m (c ∷ cs) f h = by (is_name_start c) refl h
  where
    by : (b : Bool) → is_name_start c ≡ b → (b && list_all is_name_char cs) ≡ true → NonePass (λ c. c == m) (c ∷ cs)
    by true e k = (marks_differ m c f (starts_stand c e), none_pass m cs f k)
    by false e k = absurd (cc)

-- A mark that names may not contain is not in a name.
pub name_lacks : (m : ℕ) (s : List ℕ) → m < 128 → is_name_char m ≡ false → IsUtf8 s → is_ncname s ≡ true → Lacks m s
unfolding is_ncname
name_lacks m s l f u n =
    let begun = (two_true (is_utf8 s) (begins_and_goes_on is_name_start is_name_char (chars s)) n).1 in
    let p : NoCharPasses (λ c. c == m) s = (chars s, encodes-chars s u, name_passes m (chars s) f begun) in
    lacks_by_index m s (λ i k. NoCharPasses-char m s i p l k)

-- A plain character is not a point.
plain_differs : (c : ℕ) → is_plain_char c ≡ true → (c == 46) ≡ false
unfolding is_plain_char
plain_differs c h = by (is_name_char c) (c == 46) refl h
  where
    by : (a b : Bool) → (c == 46) ≡ b → (a && not b) ≡ true → (c == 46) ≡ false
    by true true e k = absurd cc
    by true false e k = e
    by false b e k = absurd cc

no_points : (cs : List ℕ) → list_all is_plain_char cs ≡ true → NonePass (λ c. c == 46) cs
no_points [] h = tt
no_points (c ∷ cs) h = by (is_plain_char c) refl h (no_points cs)
  where
    by : (b : Bool) → is_plain_char c ≡ b → (b && list_all is_plain_char cs) ≡ true → (list_all is_plain_char cs ≡ true → NonePass (λ c. c == 46) cs) → NonePass (λ c. c == 46) (c ∷ cs)
    by true e k r = (plain_differs c e, r k)
    by false e k r = absurd cc

-- A text whose first character passes a test that no point passes, and whose others are plain.
text_lacks_point : (first : ℕ → Bool) (text : List ℕ) → ((c : ℕ) → first c ≡ true → (c == 46) ≡ false)
    → (is_utf8 text && begins_and_goes_on first is_plain_char (chars text)) ≡ true → Lacks 46 text
text_lacks_point first text misses h = by (is_utf8 text) refl h
  where
    passes : (cs : List ℕ) → begins_and_goes_on first is_plain_char cs ≡ true → NonePass (λ c. c == 46) cs
    passes [] k = absurd cc
    passes (c ∷ cs) k = begun (first c) refl k
      where
        begun : (b : Bool) → first c ≡ b → (b && list_all is_plain_char cs) ≡ true → NonePass (λ c. c == 46) (c ∷ cs)
        begun true e k = (misses c e, no_points cs k)
        begun false e k = absurd cc

    by : (b : Bool) → is_utf8 text ≡ b → (b && begins_and_goes_on first is_plain_char (chars text)) ≡ true → Lacks 46 text
    by false e k = absurd cc
    by true e k =
        let p : NoCharPasses (λ c. c == 46) text = (chars text, encodes-chars text (IsUtf8-from_is_utf8 text e), passes (chars text) k) in
        lacks_by_index 46 text (λ i l. NoCharPasses-char 46 text i p (omega arith) l)

start_no_point : (c : ℕ) → is_name_start c ≡ true → (c == 46) ≡ false
unfolding is_name_start
start_no_point c h = eqb_of c 46 (λ e. let k : is_name_start 46 ≡ true = ap is_name_start (sym e) ∙ h in absurd cc)

-- Neither an identifier nor a row identifier contains a point.
pub identifier_lacks_point : (text : List ℕ) → is_identifier text ≡ true → Lacks 46 text
unfolding is_identifier
identifier_lacks_point text h = text_lacks_point is_name_start text start_no_point h

pub row_identifier_lacks_point : (text : List ℕ) → is_row_identifier text ≡ true → Lacks 46 text
unfolding is_row_identifier
row_identifier_lacks_point text h = text_lacks_point is_plain_char text plain_differs h

-- The parts before and after an ASCII mark of a text are texts.
mark_at : (m : ℕ) (x s t : List ℕ) → x ≡ s ++ m ∷ t → (get_or x (length s) 0 ≡ m) × (length s < length x)
mark_at m x s t e =
    let g : get_or x (length s) 0 ≡ m = rw e (get_or-append_seam s m t 0) in
    (g, omega (arith, ap length e, length-append s (m ∷ t)))

pub front_is_text : (m : ℕ) (x s t : List ℕ) → m < 128 → IsUtf8 x → x ≡ s ++ m ∷ t → IsUtf8 s
front_is_text m x s t l u e =
    let f : take (length s) x ≡ s = rw e (take-append_seam s (m ∷ t)) in
    let a = mark_at m x s t e in
    subst IsUtf8 f (IsUtf8-take x (length s) u (IsCharBoundary-before_ascii x (length s) a.1 (omega (arith, a.0))))

pub rest_is_text : (m : ℕ) (x s t : List ℕ) → m < 128 → IsUtf8 x → x ≡ s ++ m ∷ t → IsUtf8 t
rest_is_text m x s t l u e =
    let f : drop (length s + 1) x ≡ t = rw e (drop-append-add s (m ∷ t) 1) in
    let a = mark_at m x s t e in
    subst IsUtf8 f (IsUtf8-drop x (length s + 1) u (IsCharBoundary-after_ascii x (length s) u a.1 (omega (arith, a.0))))

-- The values that a text of the metadata writes, by the relation and by the functions.
use Rattle.std.proofs.Common.{◌≡◌, ℕ, ◌-◌, ◌<◌, List, [], ◌∷◌, ◌++◌, take, drop, length-append, refl, sym, ap, subst, ◌∙◌, arith, length, codes}
use Rattle.std.proofs.Common.{Some, None, Option, Bool, true, false, not, ◌==◌, ◌&&◌}
use Rattle.std.specs.Prelude.{◌↔◌, nat_eq, bytes_eq, if◌then◌else◌}
use Rattle.std.specs.List.{starts_with, ends_with, list_all}
use Rattle.std.specs.Str.{chars, is_utf8}
use Rattle.std.proofs.lemmas.Bool.{eq-eqb}
use Rattle.std.proofs.lemmas.Bool.Decides.{Decides-eqb}
use Rattle.std.proofs.lemmas.Slice.Eq.{bytes_eq-Decides, starts_is, ends_is}
use Rattle.std.proofs.lemmas.Str.{IsUtf8-from_is_utf8}
use Rattle.std.proofs.Math.Seq.{take-append_seam, drop-append_seam}
use Rattle.oim_names.specs.Names.{is_name_start, is_name_char, is_plain_char, is_ncname, is_identifier, begins_and_goes_on}
use Rattle.oim_names.specs.QName.{Lacks}
use Rattle.oim_names.proofs.Cut.{name_lacks}
use Rattle.oim_names.proofs.Truth.{two_true}
use Rattle.oim_cells.specs.Cells.{Meaning, meaning_of}
use Rattle.oim_cells.specs.Cells as meaning
use Rattle.oim_report.specs.declared.kind.Kind.{Kind}
use Rattle.oim_report.specs.declared.kind.Kind.TheVariants as kind
use Rattle.oim_report.specs.declared.data.Side.{Side}
use Rattle.oim_report.specs.declared.data.Side.TheVariants.{Whole, Start, End}
use Rattle.oim_report.specs.declared.data.Written.{Written}
use Rattle.oim_report.specs.declared.data.Written.TheVariants.{Text}
use Rattle.oim_meta.specs.BadDimensions.{is_bad_meaning, is_bad_reference, is_bad_by_dollar, is_bad_text}
use Rattle.oim_meta.specs.Writes.{IsLiteral, of_text, of_type, absent, nil, empty, text, Writes, literal, doubled, reference, at_start, at_end}
use Rattle.oim_meta.specs.Written.{strip_front, strip_back, named, or_whole, name_and_side, reference_of, literal_by, unless_dollar, by_dollar, written_of}

-- A text without a mark, and with it.
lacks_not : (m : ℕ) (a b : List ℕ) → Lacks m (a ++ m ∷ b) → ⊥
lacks_not m [] b h = let e = eq-eqb m m refl in absurd cc
lacks_not m (c ∷ a) b h = lacks_not m a b h.1

lacks_joined : (m : ℕ) (s t : List ℕ) → Lacks m s → Lacks m t → Lacks m (s ++ t)
lacks_joined m [] t h k = k
lacks_joined m (c ∷ s) t h k = (h.0, lacks_joined m s t h.1 k)

-- An identifier is a name without a colon, so it lacks the marks that names lack.
plain_stand : (cs : List ℕ) → list_all is_plain_char cs ≡ true → list_all is_name_char cs ≡ true
unfolding is_plain_char
plain_stand [] h = refl
plain_stand (c ∷ cs) h = by (is_name_char c) refl h (plain_stand cs)
  where
    by : (b : Bool) → is_name_char c ≡ b → ((b && not (c == 46)) && list_all is_plain_char cs) ≡ true
        → (list_all is_plain_char cs ≡ true → list_all is_name_char cs ≡ true) → (is_name_char c && list_all is_name_char cs) ≡ true
    by true e k r = let t = two_true (not (c == 46)) (list_all is_plain_char cs) k in rw (e, r t.1) refl
    by false e k r = absurd cc

names_begin : (cs : List ℕ) → begins_and_goes_on is_name_start is_plain_char cs ≡ true → begins_and_goes_on is_name_start is_name_char cs ≡ true
names_begin [] h = absurd cc
names_begin (c ∷ cs) h = let t = two_true (is_name_start c) (list_all is_plain_char cs) h in rw (t.0, plain_stand cs t.1) refl

identifier_lacks : (m : ℕ) (s : List ℕ) → m < 128 → is_name_char m ≡ false → is_identifier s ≡ true → Lacks m s
unfolding is_identifier is_ncname
identifier_lacks m s l f h =
    let t = two_true (is_utf8 s) (begins_and_goes_on is_name_start is_plain_char (chars s)) h in
    name_lacks m s l f (IsUtf8-from_is_utf8 s t.0) (rw (t.0, names_begin (chars s) t.1) refl)

lacks_dollar : (s : List ℕ) → is_identifier s ≡ true → Lacks 36 s
unfolding is_name_char is_name_start
lacks_dollar s h = identifier_lacks 36 s (omega arith) refl h

lacks_at : (s : List ℕ) → is_identifier s ≡ true → Lacks 64 s
unfolding is_name_char is_name_start
lacks_at s h = identifier_lacks 64 s (omega arith) refl h

-- The results of `strip_front` and `strip_back`.
front_some : (p rest : List ℕ) → strip_front p (p ++ rest) ≡ Some rest
unfolding strip_front
front_some p rest = rw ((starts_is Decides-eqb (p ++ rest) p (starts_with nat_eq (p ++ rest) p) refl).1 rest refl) (ap Some (drop-append_seam p rest))

front_is : (p s rest : List ℕ) → strip_front p s ≡ Some rest → s ≡ p ++ rest
unfolding strip_front
front_is p s rest h = by (starts_with nat_eq s p) refl h
  where
    by : (b : Bool) → starts_with nat_eq s p ≡ b → (if b then Some (drop (length p) s) else None) ≡ Some rest → s ≡ p ++ rest
    by true e k =
        let same : drop (length p) s ≡ rest = cc in
        (starts_is Decides-eqb s p (starts_with nat_eq s p) refl).0 e ∙ ap (λ t. p ++ t) same
    by false e k = absurd cc

front_none : (p s : List ℕ) → starts_with nat_eq s p ≡ false → strip_front p s ≡ None
unfolding strip_front
front_none p s h = rw h refl

none_front : (p s : List ℕ) → strip_front p s ≡ None → starts_with nat_eq s p ≡ false
unfolding strip_front
none_front p s h = by (starts_with nat_eq s p) refl h
  where
    by : (b : Bool) → starts_with nat_eq s p ≡ b → (if b then Some (drop (length p) s) else None) ≡ None → starts_with nat_eq s p ≡ false
    by true e k = absurd cc
    by false e k = e

front_lacks : (m : ℕ) (p s : List ℕ) → Lacks m s → strip_front (m ∷ p) s ≡ None
front_lacks m p s h = by (strip_front (m ∷ p) s) refl
  where
    by : (o : Option (List ℕ)) → strip_front (m ∷ p) s ≡ o → o ≡ None
    by None e = refl
    by (Some rest) e = absurd (lacks_not m [] (p ++ rest) (subst (Lacks m) (front_is (m ∷ p) s rest e) h))

back_some : (p front : List ℕ) → strip_back p (front ++ p) ≡ Some front
unfolding strip_back
back_some p front =
    let n : length (front ++ p) - length p ≡ length front = omega (arith, length-append front p) in
    rw ((ends_is Decides-eqb (front ++ p) p (ends_with nat_eq (front ++ p) p) refl).1 front refl)
    (ap Some (ap (λ k. take k (front ++ p)) n ∙ take-append_seam front p))

back_is : (p s front : List ℕ) → strip_back p s ≡ Some front → s ≡ front ++ p
unfolding strip_back
back_is p s front h = by (ends_with nat_eq s p) refl h
  where
    by : (b : Bool) → ends_with nat_eq s p ≡ b → (if b then Some (take (length s - length p) s) else None) ≡ Some front → s ≡ front ++ p
    by true e k =
        let same : take (length s - length p) s ≡ front = cc in
        (ends_is Decides-eqb s p (ends_with nat_eq s p) refl).0 e ∙ ap (λ t. t ++ p) same
    by false e k = absurd cc

back_lacks : (m : ℕ) (p s : List ℕ) → Lacks m s → strip_back (m ∷ p) s ≡ None
back_lacks m p s h = by (strip_back (m ∷ p) s) refl
  where
    by : (o : Option (List ℕ)) → strip_back (m ∷ p) s ≡ o → o ≡ None
    by None e = refl
    by (Some front) e = absurd (lacks_not m front p (subst (Lacks m) (back_is (m ∷ p) s front e) h))

-- The last character.
last_of : List ℕ → ℕ
last_of [] = 0
last_of (c ∷ []) = c
last_of (c ∷ d ∷ ds) = last_of (d ∷ ds)

last_behind : (xs ys : List ℕ) (y : ℕ) → last_of (xs ++ y ∷ ys) ≡ last_of (y ∷ ys)
unfolding last_of
last_behind [] ys y = refl
last_behind (c ∷ []) ys y = refl
last_behind (c ∷ d ∷ ds) ys y = last_behind (d ∷ ds) ys y

end_not_start : (name : List ℕ) → strip_back (codes "@start") (name ++ codes "@end") ≡ None
unfolding last_of
end_not_start name = by (strip_back (codes "@start") (name ++ codes "@end")) refl
  where
    by : (o : Option (List ℕ)) → strip_back (codes "@start") (name ++ codes "@end") ≡ o → o ≡ None
    by None e = refl
    by (Some front) e =
        let same : 100 ≡ 116 =
        sym (last_behind name (codes "end") 64) ∙ ap last_of (back_is (codes "@start") (name ++ codes "@end") front e) ∙ last_behind front (codes "start") 64 in
        absurd (omega (arith, same))

-- A reference by its name.
name_whole : (key name : List ℕ) → is_identifier name ≡ true → name_and_side key name ≡ (name, Whole)
unfolding name_and_side
name_whole key name h = by (bytes_eq key (codes "period")) (back_lacks 64 (codes "start") name (lacks_at name h)) (back_lacks 64 (codes "end") name (lacks_at name h))
  where
    by : (b : Bool) → strip_back (codes "@start") name ≡ None → strip_back (codes "@end") name ≡ None
        → (if b then or_whole name (strip_back (codes "@start") name) (strip_back (codes "@end") name) else (name, Whole)) ≡ (name, Whole)
    by true s e = rw (s, e) refl
    by false s e = refl

name_at_start : (name : List ℕ) → name_and_side (codes "period") (name ++ codes "@start") ≡ (name, Start)
unfolding name_and_side
name_at_start name = rw (back_some (codes "@start") name) refl

name_at_end : (name : List ℕ) → name_and_side (codes "period") (name ++ codes "@end") ≡ (name, End)
unfolding name_and_side
name_at_end name = rw (end_not_start name, back_some (codes "@end") name) refl

-- A reference that is a name, perhaps with a side, is not bad.
IsGood : Option Kind → List ℕ → List ℕ → Written → Type 0
IsGood kind key t value = (is_bad_text kind key t ≡ false) × (written_of key t ≡ value)

by_name : (kind : Option Kind) (key rest name : List ℕ) (side : Side) → Lacks 36 rest → name_and_side key rest ≡ (name, side) → is_identifier name ≡ true
    → IsGood kind key (codes "$" ++ rest) (named name side)
unfolding IsGood
by_name kind key rest name side l n h =
    let one = front_some (codes "$") rest in
    let two = front_lacks 36 [] rest l in (
      ap (is_bad_by_dollar kind key (codes "$" ++ rest)) one ∙ ap (is_bad_reference key rest) two
          ∙ ap (λ (r : List ℕ × Side). not (is_identifier r.0)) n ∙ ap not h,
      ap (by_dollar key (codes "$" ++ rest)) one ∙ ap (unless_dollar key rest) two ∙ ap (λ (r : List ℕ × Side). named r.0 r.1) n,
    )

good_literal : {kind : Option Kind} {m : Meaning} {value : Written} → IsLiteral kind m value → (is_bad_meaning kind m ≡ false) × (literal_by m ≡ value)
good_literal (absent kind) = (refl, refl)
good_literal (nil kind of_text) = (refl, refl)
good_literal (nil kind (of_type type)) = (refl, refl)
good_literal (empty kind of_text) = (refl, refl)
good_literal (empty kind (of_type type)) = (refl, refl)
good_literal (text kind t) = (refl, refl)

writes_good : {kind : Option Kind} {key t : List ℕ} {value : Written} → Writes kind key t value → IsGood kind key t value
unfolding IsGood
writes_good (literal kind key t value n l) =
    let one = front_none (codes "$") t n in
    let good = good_literal l in
    (ap (is_bad_by_dollar kind key t) one ∙ good.0, ap (by_dollar key t) one ∙ good.1)
writes_good (doubled kind key rest) =
    let one = front_some (codes "$") (codes "$" ++ rest) in
    let two = front_some (codes "$") rest in (
      ap (is_bad_by_dollar kind key (codes "$$" ++ rest)) one ∙ ap (is_bad_reference key (codes "$" ++ rest)) two,
      ap (by_dollar key (codes "$$" ++ rest)) one ∙ ap (unless_dollar key (codes "$" ++ rest)) two,
    )
writes_good (reference kind key name h) = by_name kind key name name Whole (lacks_dollar name h) (name_whole key name h) h
writes_good (at_start kind name h) =
    let l = lacks_joined 36 name (codes "@start") (lacks_dollar name h) (refl, (refl, (refl, (refl, (refl, (refl, tt)))))) in
    by_name kind (codes "period") (name ++ codes "@start") name Start l (name_at_start name) h
writes_good (at_end kind name h) =
    let l = lacks_joined 36 name (codes "@end") (lacks_dollar name h) (refl, (refl, (refl, (refl, tt)))) in
    by_name kind (codes "period") (name ++ codes "@end") name End l (name_at_end name) h

-- A text that is not bad writes the value of the functions.
literal_from : (k : Option Kind) (m : Meaning) → is_bad_meaning k m ≡ false → IsLiteral k m (literal_by m)
literal_from k meaning.Absent h = absent k
literal_from (Some kind.Typed) meaning.Nil h = nil kind.Typed of_text
literal_from (Some kind.Typed) meaning.Empty h = empty kind.Typed of_text
literal_from (Some (kind.TypedBy t)) meaning.Nil h = nil (kind.TypedBy t) (of_type t)
literal_from (Some (kind.TypedBy t)) meaning.Empty h = empty (kind.TypedBy t) (of_type t)
literal_from k (meaning.Text t) h = text k t
literal_from k m h = absurd cc

sides_from : (k : Option Kind) (rest : List ℕ) (s e : Option (List ℕ)) → strip_back (codes "@start") rest ≡ s → strip_back (codes "@end") rest ≡ e
    → is_identifier (or_whole rest s e).0 ≡ true → Writes k (codes "period") (codes "$" ++ rest) (named (or_whole rest s e).0 (or_whole rest s e).1)
sides_from k rest (Some front) e p q h =
    subst (λ t. Writes k (codes "period") (codes "$" ++ t) (named front Start)) (sym (back_is (codes "@start") rest front p)) (at_start k front h)
sides_from k rest None (Some front) p q h =
    subst (λ t. Writes k (codes "period") (codes "$" ++ t) (named front End)) (sym (back_is (codes "@end") rest front q)) (at_end k front h)
sides_from k rest None None p q h = reference k (codes "period") rest h

-- The name and the side, by whether a side is allowed.
abbrev parts : List ℕ → Bool → List ℕ × Side
parts rest b = if b then or_whole rest (strip_back (codes "@start") rest) (strip_back (codes "@end") rest) else (rest, Whole)

reference_from : (k : Option Kind) (key rest : List ℕ) → is_identifier (name_and_side key rest).0 ≡ true → Writes k key (codes "$" ++ rest) (reference_of key rest)
unfolding name_and_side
reference_from k key rest h = by (bytes_eq key (codes "period")) refl h
  where
    by : (b : Bool) → bytes_eq key (codes "period") ≡ b → is_identifier (parts rest b).0 ≡ true
        → Writes k key (codes "$" ++ rest) (named (parts rest b).0 (parts rest b).1)
    by true e i =
        let w = sides_from k rest (strip_back (codes "@start") rest) (strip_back (codes "@end") rest) refl refl i in
        subst (λ y. Writes k y (codes "$" ++ rest) (named (parts rest true).0 (parts rest true).1)) (sym ((bytes_eq-Decides key (codes "period")).0 e)) w
    by false e i = reference k key rest i

dollar_from : (k : Option Kind) (key rest : List ℕ) (o : Option (List ℕ)) → strip_front (codes "$") rest ≡ o → is_bad_reference key rest o ≡ false
    → Writes k key (codes "$" ++ rest) (unless_dollar key rest o)
dollar_from k key rest (Some more) e h =
    subst (λ t. Writes k key (codes "$" ++ t) (Text t)) (sym (front_is (codes "$") rest more e)) (doubled k key more)
dollar_from k key rest None e h = reference_from k key rest (by (is_identifier (name_and_side key rest).0) h)
  where
    by : (b : Bool) → not b ≡ false → b ≡ true
    by true g = refl
    by false g = absurd cc

text_from : (k : Option Kind) (key t : List ℕ) (o : Option (List ℕ)) → strip_front (codes "$") t ≡ o → is_bad_by_dollar k key t o ≡ false
    → Writes k key t (by_dollar key t o)
text_from k key t None e h = literal k key t (literal_by (meaning_of t)) (none_front (codes "$") t e) (literal_from k (meaning_of t) h)
text_from k key t (Some rest) e h =
    subst (λ y. Writes k key y (unless_dollar key rest (strip_front (codes "$") rest))) (sym (front_is (codes "$") t rest e))
    (dollar_from k key rest (strip_front (codes "$") rest) refl h)

good_writes : (k : Option Kind) (key t : List ℕ) → is_bad_text k key t ≡ false → Writes k key t (written_of key t)
good_writes k key t h = text_from k key t (strip_front (codes "$") t) refl h

pub value_law : (k : Option Kind) (key t : List ℕ) (value : Written) → Writes k key t value ↔ ((is_bad_text k key t ≡ false) × (written_of key t ≡ value))
unfolding IsGood
value_law k key t value = (λ w. writes_good w, λ g. subst (λ v. Writes k key t v) g.1 (good_writes k key t g.0))

pub fault_law : (k : Option Kind) (key t : List ℕ) → (is_bad_text k key t ≡ true) ↔ ((value : Written) → Writes k key t value → ⊥)
fault_law k key t = (λ e value w. let g = (value_law k key t value).0 w in absurd cc, λ n. by (is_bad_text k key t) refl n)
  where
    by : (b : Bool) → is_bad_text k key t ≡ b → ((value : Written) → Writes k key t value → ⊥) → is_bad_text k key t ≡ true
    by true e n = e
    by false e n = absurd (n (written_of key t) (good_writes k key t e))

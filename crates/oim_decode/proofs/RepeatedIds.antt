-- One turn of the search for a repeated identifier.
use Rattle.std.proofs.Common.{◌≡◌, ◌++◌, ◌+◌, ◌≤◌, ◌<◌, ℕ, zero, suc, List, [], ◌∷◌, Bool, true, false, not, length, take, Option, Some, None, eqb, unwrap_or, refl, sym, ap, ◌∙◌, add-one, arith}
use Rattle.std.specs.List.{list_any, position_from}
use Rattle.std.specs.Option.{option_eq}
use Rattle.std.specs.Str.{bytes_eq}
use Rattle.std.proofs.lemmas.Bool.{eqb-true}
use Rattle.std.proofs.lemmas.List.Folds.{list_any-append}
use Rattle.oim_records.specs.Grids.{Field}
use Rattle.oim_decode.specs.Apart.{repeated_from}

-- The identifier is among `before`.
abbrev pub IsAmong : List Field → Field → Bool
IsAmong before id = list_any (bytes_eq id) before

-- The first place at which the test passes is not before the first place of the list.
position_from-on : (t : Field → Bool) (i k : ℕ) (xs : List Field) → position_from t i xs ≡ Some k → i ≤ k
position_from-on t i k [] e = absurd (cc e)
position_from-on t i k (x ∷ xs) e = by (t x) refl (position_from-on t (i + 1) k xs)
  where
    by : (b : Bool) → t x ≡ b → (position_from t (i + 1) xs ≡ Some k → i + 1 ≤ k) → i ≤ k
    by true h more = let same : Some i ≡ Some k = rw h at e in omega (arith, ap (λ o. unwrap_or o 0) same)
    by false h more = let next : position_from t (i + 1) xs ≡ Some k = rw h at e in omega (arith, more next)

-- What is among a prefix is among the whole.
among_more : (before more now : List Field) (id : Field) → now ≡ before ++ more → IsAmong before id ≡ true → IsAmong now id ≡ true
among_more before more now id e h = rw (e, list_any-append (bytes_eq id) before more, h) refl

-- The identifier at the found place is repeated.
pub found_again : (before more now : List Field) (k : ℕ) (id : Field) (ids : List Field) → now ≡ before ++ more → position_from (IsAmong before) k (id ∷ ids) ≡ Some k
    → repeated_from k now (id ∷ ids) ≡ Some k
found_again before more now k id ids e at = rw (among_more before more now id e (by (IsAmong before id) refl)) refl
  where
    by : (b : Bool) → IsAmong before id ≡ b → IsAmong before id ≡ true
    by true h = h
    by false h = let next : position_from (IsAmong before) (k + 1) ids ≡ Some k = rw h at at in absurd (omega (arith, position_from-on (IsAmong before) (k + 1) k ids next))

-- A new identifier is passed.
pub new_passed : (now : List Field) (k : ℕ) (id : Field) (ids : List Field) → IsAmong now id ≡ false → repeated_from k now (id ∷ ids) ≡ repeated_from (k + 1) (now ++ id ∷ []) ids
new_passed now k id ids new = rw new refl

pub not_found : (before more now : List Field) (k : ℕ) (id : Field) (ids : List Field) → now ≡ before ++ more → IsAmong now id ≡ false
    → position_from (IsAmong before) k (id ∷ ids) ≡ position_from (IsAmong before) (k + 1) ids
not_found before more now k id ids e new = by (IsAmong before id) refl
  where
    by : (b : Bool) → IsAmong before id ≡ b → position_from (IsAmong before) k (id ∷ ids) ≡ position_from (IsAmong before) (k + 1) ids
    by true h = let both : true ≡ false = sym (among_more before more now id e h) ∙ new in absurd (cc both)
    by false h = rw h refl

-- The same for what the loop holds.
pub some_is : (o : Option ℕ) (k : ℕ) → true ≡ option_eq eqb o (Some k) → o ≡ Some k
some_is None k e = absurd (cc e)
some_is (Some j) k e = ap (λ (i : ℕ). Some i) (eqb-true j k (sym e))

pub is_new : (b added : Bool) → added ≡ not b → added ≡ true → b ≡ false
is_new true added e h = cc (sym e ∙ h)
is_new false added e h = refl

-- One more item of a list after a prefix of it.
one_more : (ids : List Field) (k : ℕ) (id : Field) (rest : List Field) → take k ids ++ id ∷ rest ≡ ids → k < length ids → take (suc k) ids ≡ take k ids ++ id ∷ []
one_more [] k id rest e lt = absurd (omega (arith, lt))
one_more (x ∷ xs) zero id rest e lt = cc e
one_more (x ∷ xs) (suc k) id rest e lt = let inner : take k xs ++ id ∷ rest ≡ xs = cc e in ap (λ (t : List Field). x ∷ t) (one_more xs k id rest inner (omega (arith, lt)))

pub one_taken : (ids : List Field) (k : ℕ) (id : Field) (rest : List Field) → take k ids ++ id ∷ rest ≡ ids → k < length ids → take (k + 1) ids ≡ take k ids ++ id ∷ []
one_taken ids k id rest e lt = rw add-one (one_more ids k id rest e lt)

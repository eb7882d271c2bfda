-- What is kept after the identifiers were moved to another hash set.
use Rattle.std.proofs.Common.{◌≡◌, ◌||◌, ℕ, List, [], ◌∷◌, Bool, true, false, refl, sym, ap, ◌∙◌, String}
use Rattle.indexmap.specs.IndexSet.{insert_all, insert_key}
use Rattle.std.proofs.lemmas.Cmp.{nat_list_eq_equiv}
use Rattle.std.proofs.lemmas.List.Folds.{list_any-append}
use Rattle.std.proofs.lemmas.Map.Steps.{list_any_congr}
use Rattle.std.specs.BTreeSet.{BTreeSet, contains_text}
use Rattle.std.specs.Cmp.{IsEquivalence}
use Rattle.std.specs.List.{list_any}
use Rattle.std.specs.Str.{bytes_eq}
use Rattle.oim_rows.specs.state.KeptIds.{is_kept}

or_none : (b : Bool) → (b || false) ≡ b
or_none true = refl
or_none false = refl

or_some : (b : Bool) → (b || true) ≡ true
or_some true = refl
or_some false = refl

or_or : (a b c : Bool) → ((a || b) || c) ≡ (a || (b || c))
or_or true b c = refl
or_or false b c = refl

module _ {K : Type 0} {eq : K → K → Bool} (laws : IsEquivalence eq) where
  -- One more key is there, or was there before.
  any_inserted : (q x : K) (ks : List K) (there same : Bool) → list_any (eq x) ks ≡ there → eq q x ≡ same → list_any (eq q) (insert_key eq ks x) ≡ (list_any (eq q) ks || eq q x)
  any_inserted q x ks false same absent e = rw (absent) (list_any-append (eq q) ks (x ∷ []) ∙ ap (λ b. list_any (eq q) ks || b) (or_none (eq q x)))
  any_inserted q x ks true true there e = rw (there, e) (list_any_congr laws q x ks e ∙ there ∙ sym (or_some (list_any (eq q) ks)))
  any_inserted q x ks true false there e = rw (there, e) (sym (or_none (list_any (eq q) ks)))

  -- All keys of a list are there, and those from before.
  pub any_all_inserted : (q : K) (ks xs : List K) → list_any (eq q) (insert_all eq ks xs) ≡ (list_any (eq q) ks || list_any (eq q) xs)
  any_all_inserted q ks [] = sym (or_none (list_any (eq q) ks))
  any_all_inserted q ks (x ∷ xs) =
      any_all_inserted q (insert_key eq ks x) xs ∙ ap (λ b. b || list_any (eq q) xs) (any_inserted q x ks (list_any (eq x) ks) (eq q x) refl refl)
      ∙ or_or (list_any (eq q) ks) (eq q x) (list_any (eq q) xs)

-- A hash set without a key, to which all were moved, has the same.
pub all_moved : {Y : Type 0} (empty before after : List (List ℕ)) (ordered : BTreeSet (String Y)) (id : List ℕ)
    → empty ≡ [] → after ≡ insert_all bytes_eq empty before
    → is_kept after ordered id ≡ is_kept before ordered id
all_moved empty before after ordered id none moved = rw (moved, none) (ap (λ b. b || contains_text ordered id) (any_all_inserted nat_list_eq_equiv id [] before))

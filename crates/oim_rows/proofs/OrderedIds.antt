-- What is kept after an identifier was added to those in order.
use Rattle.std.proofs.Common.{◌≡◌, ◌||◌, ◌&&◌, ℕ, List, Bool, true, false, not, cond, refl, sym, ap, ◌∙◌, Result, Ok, Err, String, IfOk, OnOk, string_cmp}
use Rattle.std.proofs.lemmas.Cmp.{nat_list_eq_equiv}
use Rattle.std.proofs.lemmas.Map.Text.{btree_set_updates_text}
use Rattle.std.specs.BTreeSet.{BTreeSet, UpdatesBy, contains_text}
use Rattle.std.specs.Cmp.Lexicographic.{slice_cmp}
use Rattle.std.specs.List.{list_any}
use Rattle.std.specs.Ordering.{nat_cmp}
use Rattle.std.specs.Str.{bytes_eq}
use Rattle.std.specs.String.{string_bytes}
use Rattle.oim_rows.specs.state.KeptIds.{is_kept}

either : (h c q n : Bool) → n ≡ cond q true c → (h || n) ≡ ((h || c) || q)
either true c q n e = refl
either false true true n e = e
either false true false n e = e
either false false true n e = e
either false false false n e = e

-- An identifier that is not in order is added there. It was read twice, as `asked` and as `put`.
pub more-ordered : {E Y : Type 0} (before hashed : List (List ℕ)) (old new : BTreeSet (String Y)) (id asked put : List ℕ) (r : Result Bool E) (seen : Bool)
    → hashed ≡ before → asked ≡ id → put ≡ id → seen ≡ contains_text old asked → seen ≡ false
    → IfOk r (λ added. added ≡ not (contains_text old put))
    → OnOk r (UpdatesBy string_cmp (λ k. slice_cmp nat_cmp put (string_bytes k)) old new true)
    → IfOk r (λ added. (other : List ℕ) → is_kept hashed new other ≡ (is_kept before old other || (added && bytes_eq other id)))
more-ordered before hashed old new id asked put (Err e) seen same asked_is put_is is_seen none added updates = tt
more-ordered {Y = Y} before hashed old new id asked put (Ok a) seen same asked_is put_is is_seen none added updates = λ other.
    let absent : contains_text old put ≡ false = ap (contains_text old) (put_is ∙ sym asked_is) ∙ sym is_seen ∙ none in
    let is_added : a ≡ true = added ∙ ap not absent in
    let found : contains_text new other ≡ cond (bytes_eq other id) true (contains_text old other) =
    btree_set_updates_text {Y = Y} put old new true updates other ∙ ap (λ t. cond (bytes_eq t other) true (contains_text old other)) put_is
    ∙ ap (λ b. cond b true (contains_text old other)) (nat_list_eq_equiv.symm id other) in
    rw (same, is_added) (either (list_any (bytes_eq other) before) (contains_text old other) (bytes_eq other id) (contains_text new other) found)

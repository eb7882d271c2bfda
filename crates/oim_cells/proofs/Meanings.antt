-- The function of meanings agrees with the table.
use Rattle.std.proofs.Common.{◌≡◌, ◌≢◌, ℕ, List, [], ◌∷◌, refl, sym, ap, codes, false, nat_eq}
use Rattle.std.specs.List.{starts_with}
use Rattle.std.specs.Str.{bytes_eq}
use Rattle.std.proofs.lemmas.Bool.{false_from_ne_true, ne_eqb}
use Rattle.std.proofs.lemmas.Slice.Eq.{bytes_eq-Decides}
use Rattle.oim_cells.specs.Cells.{Meaning, Means, nothing, none, nil, empty, doubled, other, plain, meaning_of}

differs : (s t : List ℕ) → s ≢ t → bytes_eq s t ≡ false
differs s t n = false_from_ne_true _ (λ e. n ((bytes_eq-Decides s t).0 e))

unmarked : (rest : List ℕ) → ((more : List ℕ) → rest ≢ 35 ∷ more) → starts_with nat_eq rest (35 ∷ []) ≡ false
unmarked [] n = refl
unmarked (c ∷ rest) n = rw (ne_eqb 35 c (λ e. n rest (ap (λ b. b ∷ rest) (sym e)))) refl

pub meaning_law : {t : List ℕ} {m : Meaning} → Means t m → m ≡ meaning_of t
unfolding meaning_of
meaning_law nothing = refl
meaning_law none = refl
meaning_law nil = refl
meaning_law empty = refl
meaning_law (doubled rest) = refl
meaning_law (other rest i) =
    rw (differs rest (codes "none") i.0, differs rest (codes "nil") i.1, differs rest (codes "empty") i.2, unmarked rest i.3) refl
meaning_law (plain first rest n) = rw (ne_eqb first 35 n, ne_eqb 35 first (λ e. n (sym e))) refl

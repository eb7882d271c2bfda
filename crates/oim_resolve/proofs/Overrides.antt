-- Levels from the most specific to the most general.
use Rattle.std.proofs.Common.{◌≡◌, ℕ, List, [], ◌∷◌, ◌++◌, ◌+◌, ◌<◌, ◌≤◌, length, drop, get_or, sym, map, reverse, Option, Some, None, refl, ap, ◌∙◌}
use Rattle.std.specs.List.{fold}
use Rattle.std.specs.Option.{option_or}
use Rattle.std.proofs.lemmas.List.{map-append, reverse-append, at_drop_more, at_drop_all}
use Rattle.std.proofs.lemmas.List.Sums.{fold-append}
use Rattle.oim_names.specs.Lookup.{value_at}
use Rattle.oim_report.specs.declared.data.Level.{Level}
use Rattle.oim_report.specs.declared.data.Written.{Written}
use Rattle.oim_report.specs.declared.data.WrittenDecimals.{WrittenDecimals}
use Rattle.std.specs.Borrow.{Bor}
use Rattle.oim_resolve.specs.ProgramCell.{held}
use Rattle.oim_resolve.specs.Written.{written, written_decimals, overridden, dimensions_at}
use Rattle.oim_resolve.specs.Writers.{first_answer}

-- What the first level that writes a name writes for it.
abbrev pub first_written : List Level → List ℕ → Option Written
first_written ls n = first_answer (λ l. value_at n l.dimensions) ls

abbrev pub first_decimals : List Level → Option WrittenDecimals
first_decimals ls = first_answer (λ l. l.decimals) ls

pub written-push : (ls : List Level) (l : Level) (n : List ℕ) → written (ls ++ l ∷ []) n ≡ option_or (value_at n l.dimensions) (written ls n)
written-push ls l n =
    ap (λ ms. fold overridden (λ _. None) ms n) (map-append dimensions_at ls (l ∷ []))
    ∙ ap (λ m. m n) (fold-append overridden (λ _. None) (map dimensions_at ls) (dimensions_at l ∷ []))

pub written_reversed : (ls : List Level) (n : List ℕ) → written (reverse ls) n ≡ first_written ls n
written_reversed [] n = refl
written_reversed (l ∷ ls) n = ap (λ x. written x n) (reverse-append (l ∷ []) ls) ∙ written-push (reverse ls) l n ∙ ap (option_or (value_at n l.dimensions)) (written_reversed ls n)

pub decimals-push : (ls : List Level) (l : Level) → written_decimals (ls ++ l ∷ []) ≡ option_or l.decimals (written_decimals ls)
decimals-push ls l =
    ap (fold (λ general specific. option_or specific general) None) (map-append (λ (l : Level). l.decimals) ls (l ∷ []))
    ∙ fold-append (λ general specific. option_or specific general) None (map (λ (l : Level). l.decimals) ls) (l.decimals ∷ [])

pub decimals_reversed : (ls : List Level) → written_decimals (reverse ls) ≡ first_decimals ls
decimals_reversed [] = refl
decimals_reversed (l ∷ ls) = ap written_decimals (reverse-append (l ∷ []) ls) ∙ decimals-push (reverse ls) l ∙ ap (option_or l.decimals) (decimals_reversed ls)

-- At the level at index i, if no earlier one writes the name.
module _ (ls : List (Bor Level)) (i : ℕ) (d : Bor Level) (h : i < length ls) (is : d ≡ get_or ls i d) where
  pub found_written : (n : List ℕ) (w : Written) → Some w ≡ value_at n d.now.dimensions → first_written (held (drop i ls)) n ≡ first_written (held ls) n → Some w ≡ written (reverse (held ls)) n
  found_written n w e p =
      ap (λ o. option_or o (first_written (held (drop (i + 1) ls)) n)) (e ∙ ap (λ (x : Bor Level). value_at n x.now.dimensions) is)
      ∙ sym (at_drop_more (λ xs. first_written (held xs) n) ls i d h) ∙ p ∙ sym (written_reversed (held ls) n)

  pub found_decimals : (w : WrittenDecimals) → Some w ≡ d.now.decimals → first_decimals (held (drop i ls)) ≡ first_decimals (held ls) → Some w ≡ written_decimals (reverse (held ls))
  found_decimals w e p =
      ap (λ o. option_or o (first_decimals (held (drop (i + 1) ls)))) (e ∙ ap (λ (x : Bor Level). x.now.decimals) is)
      ∙ sym (at_drop_more (λ xs. first_decimals (held xs)) ls i d h) ∙ p ∙ sym (decimals_reversed (held ls))

pub none_written : (ls : List (Bor Level)) (i : ℕ) (n : List ℕ) → length ls ≤ i → first_written (held (drop i ls)) n ≡ first_written (held ls) n → None ≡ written (reverse (held ls)) n
none_written ls i n h p = sym (at_drop_all (λ xs. first_written (held xs) n) ls i h) ∙ p ∙ sym (written_reversed (held ls) n)

pub none_decimals : (ls : List (Bor Level)) (i : ℕ) → length ls ≤ i → first_decimals (held (drop i ls)) ≡ first_decimals (held ls) → None ≡ written_decimals (reverse (held ls))
none_decimals ls i h p = sym (at_drop_all (λ xs. first_decimals (held xs)) ls i h) ∙ p ∙ sym (decimals_reversed (held ls))

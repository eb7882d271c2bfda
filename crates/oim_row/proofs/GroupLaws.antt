-- The group of a name among those of a column.
use Rattle.std.proofs.Common.{◌≡◌, ◌<◌, ℕ, List, length, get_or, Some, Ok, true, refl, sym, ap, ◌∙◌, subst, Ordering, is_none}
use Rattle.std.specs.List.{slice_get}
use Rattle.std.specs.Map.{keys_of}
use Rattle.std.specs.Option.{option_map}
use Rattle.std.specs.Ordering.{nat_cmp, is_eq}
use Rattle.std.specs.Cmp.Lexicographic.{slice_cmp}
use Rattle.std.specs.declared.cmp.Ordering.TheVariants.{Less, Equal, Greater}
use Rattle.std.proofs.lemmas.List.{get_or_default}
use Rattle.std.proofs.lemmas.Map.Text.{is_eq-slice_cmp}
use Rattle.std.proofs.lemmas.Option.{slice_get-get_or}
use Rattle.std.proofs.lemmas.Slice.Eq.{bytes_eq-Decides}
use Rattle.oim_cells.specs.Cells.{Text}
use Rattle.oim_names.specs.Lookup.{value_at}
use Rattle.oim_names.proofs.Searches.{searched}
use Rattle.oim_report.specs.Rising.{IsRising}
use Rattle.oim_report.specs.declared.data.Column.{Column}
use Rattle.oim_report.specs.declared.data.Level.{Level}
use Rattle.oim_row.specs.Groups.{Names}
use Rattle.oim_row.specs.declared.group_cells.Choice.TheVariants as choice

-- If a name's value is at an index, the name names the group there.
pub named_at : (c : Column) (gs : List (List ℕ × Level)) (n : List ℕ) (i : ℕ) (d : List ℕ × Level) → i < length gs → value_at n gs ≡ Some (get_or gs i d).1 → gs ≡ c.groups
    → Names c (Text n) (choice.Group i)
named_at c gs n i d within is same =
    let there : value_at n c.groups ≡ Some (get_or gs i d).1 = subst (λ xs. value_at n xs ≡ Some (get_or gs i d).1) same is in
    record {
      known = refl;
      named = ap is_none there;
      group = there ∙ sym (ap (option_map (λ (e : List ℕ × Level). e.1)) (slice_get-get_or gs i d within)) ∙ ap (λ xs. option_map (λ (e : List ℕ × Level). e.1) (slice_get xs i)) same;
    }

is_equal : (o : Ordering) → is_eq o ≡ true → o ≡ Equal
is_equal Less e = absurd (cc)
is_equal Equal e = refl
is_equal Greater e = absurd (cc)

-- If the name at an index is this one.
pub named_there : (c : Column) (gs : List (List ℕ × Level)) (n : List ℕ) (i : ℕ) (e : List ℕ × Level) → IsRising (keys_of gs) → i < length gs → e ≡ get_or gs i e → e.0 ≡ n → gs ≡ c.groups
    → Names c (Text n) (choice.Group i)
named_there c gs n i e rise within is name same =
    let order : (d : List ℕ × Level) → slice_cmp nat_cmp (get_or gs i d).0 n ≡ Equal =
    λ d. is_equal _ (is_eq-slice_cmp (get_or gs i d).0 n ∙ (bytes_eq-Decides (get_or gs i d).0 n).1 (ap (λ (x : List ℕ × Level). x.0) (get_or_default gs i d e within ∙ sym is) ∙ name)) in
    named_at c gs n i e within (searched gs n (Ok i) rise within order e) same

-- If all templates of tables and all columns of templates are known, each place is in range.
use Rattle.std.proofs.Common.{◌≡◌, ℕ, suc, ◌<◌, List, [], ◌∷◌, ◌++◌, Bool, true, false, cond, not, ◌||◌, ◌&&◌}
use Rattle.std.proofs.Common.{length, All, Option, Some, None, Ordering, Less, Equal, Greater, refl, arith, bytes_eq, fold, nat_eq}
use Rattle.std.specs.Prelude.{is_none, option_map, option_and_then, unwrap_or, codes, IfSome}
use Rattle.std.specs.List.{AllByRecursion, list_any}
use Rattle.std.specs.Ordering.{nat_cmp, match_ordering, is_eq}
use Rattle.std.specs.Cmp.Lexicographic.{slice_cmp}
use Rattle.std.proofs.lemmas.List.Elements.{All-from_recursion}
use Rattle.std.proofs.lemmas.Map.Text.{is_eq-slice_cmp}
use Rattle.serde_json.specs.Data.{Data, null, boolean, number, string, array, object, Items, no_items, item, Members, no_members, member}
use Rattle.serde_json.specs.Find.{get, get_member, as_object, as_str}
use Rattle.oim_report.specs.Readers.{holds_facts}
use Rattle.oim_report.specs.declared.data.Column.{Column}
use Rattle.oim_report.specs.declared.data.ColumnKind.{ColumnKind}
use Rattle.oim_report.specs.declared.data.ColumnKind.TheVariants.{Fact, Groups, Comment, Plain}
use Rattle.oim_report.specs.declared.data.Table.{Table}
use Rattle.oim_meta.specs.Order.{IsInOrder}
use Rattle.oim_report.specs.Places.{HasColumns, IsReport}
use Rattle.oim_meta.specs.Members.{section, items_at, text_at, any_member, any_item, map_members, map_items, if_there}
use Rattle.oim_meta.specs.Faults.{template_name, lacks_template_of, has_unknown_template, has_bad_identifier}
use Rattle.oim_meta.specs.UnknownColumn.{is_groups, column_at, lacks_column, lacks_groups, has_unknown_row_id, is_unknown_source, has_unknown_source, lacks_named_column, has_unknown_column}
use Rattle.oim_meta.specs.Value.{kind_of, add_place, sources_of, level_of, column_of, columns_of, template_of, place_of, table_of, tables_of, templates_of, named_text}
use Rattle.oim_meta.proofs.Ordered.{parts_rise, have_identifiers, own_parameters_rise}

left : (a b : Bool) → (a || b) ≡ false → a ≡ false
left true b h = absurd cc
left false b h = refl

right : (a b : Bool) → (a || b) ≡ false → b ≡ false
right true b h = absurd cc
right false b h = h

at : (o : Ordering) (b : Bool) (x y : Option Data) (n p : ℕ) → is_eq o ≡ b → is_none (match_ordering o x y x) ≡ false → (is_none x ≡ false → p < n) → cond b 0 (suc p) < suc n
at Less true x y n p e h rest = absurd cc
at Less false x y n p e h rest = let below = rest h in omega arith
at Equal true x y n p e h rest = omega arith
at Equal false x y n p e h rest = absurd cc
at Greater true x y n p e h rest = absurd cc
at Greater false x y n p e h rest = let below = rest h in omega arith

-- The place of a name that exists.
below : {X : Type 0} (f : List ℕ → Data → X) (name : List ℕ) (ts : Members) → is_none (get_member name ts) ≡ false → place_of name ts < length (map_members f ts)
below f name no_members h = absurd cc
below f name (member k d ms) h =
    at (slice_cmp nat_cmp name k) (bytes_eq name k) (get_member name ms) (Some d) (length (map_members f ms)) (place_of name ms) (is_eq-slice_cmp name k) h (below f name ms)

-- The members of a value that may be an object.
abbrev members_of : Option Data → Members
members_of o = unwrap_or (option_and_then as_object o) no_members

found : (name : List ℕ) (o : Option Data) → is_none (option_and_then (get name) o) ≡ false → is_none (get_member name (members_of o)) ≡ false
found name None h = absurd cc
found name (Some null) h = absurd cc
found name (Some (boolean b)) h = absurd cc
found name (Some (number n)) h = absurd cc
found name (Some (string s)) h = absurd cc
found name (Some (array ds)) h = absurd cc
found name (Some (object ms)) h = h

-- THE PLACES OF TEMPLATES

abbrev IsPlaced : ℕ → Table → Type 0
IsPlaced n t = t.template < n

each_table : (o : Option Data) (tables : Members) → any_member (lacks_template_of o) tables ≡ false
    → AllByRecursion (IsPlaced (length (map_members template_of (members_of o)))) (map_members (table_of (members_of o)) tables)
unfolding table_of
each_table o no_members h = tt
each_table o (member id t ms) h = (
  below template_of (template_name id t) (members_of o)
      (found (template_name id t) o (left (lacks_template_of o id t) (any_member (lacks_template_of o) ms) h)),
  each_table o ms (right (lacks_template_of o id t) _ h),
)

tables_placed : (d : Data) → has_unknown_template d ≡ false → All (IsPlaced (length (templates_of d))) (tables_of d)
unfolding has_unknown_template
tables_placed d h = All-from_recursion (IsPlaced (length (templates_of d))) _ (each_table (get (codes "tableTemplates") d) (section (codes "tables") d) h)

-- THE PLACES OF COLUMNS

abbrev IsBelow : ℕ → ℕ → Type 0
IsBelow n i = i < n

one_more : (n : ℕ) (seen : List ℕ) (x : ℕ) → AllByRecursion (IsBelow n) seen → x < n → AllByRecursion (IsBelow n) (seen ++ x ∷ [])
one_more n [] x all h = (h, tt)
one_more n (y ∷ ys) x all h = (all.0, one_more n ys x all.1 h)

unless_there : (n : ℕ) (b : Bool) (seen : List ℕ) (x : ℕ) → AllByRecursion (IsBelow n) seen → x < n → AllByRecursion (IsBelow n) (cond b seen (seen ++ x ∷ []))
unless_there n true seen x all h = all
unless_there n false seen x all h = one_more n seen x all h

-- The name of a property group column is the name of a column.
named : (o : Option Data) → not (if_there (λ c. is_groups (kind_of c)) o) ≡ false → is_none o ≡ false
named None h = absurd cc
named (Some c) h = refl

source : (t : Data) (n : ℕ) → ((name : List ℕ) → lacks_column t name ≡ false → place_of name (section (codes "columns") t) < n)
    → (seen : List ℕ) (o : Option (List ℕ)) → AllByRecursion (IsBelow n) seen → unwrap_or (option_map (lacks_groups t) o) false ≡ false
    → AllByRecursion (IsBelow n) (add_place (section (codes "columns") t) seen o)
source t n place seen None all h = all
source t n place seen (Some name) all h =
    let x = place_of name (section (codes "columns") t) in
    unless_there n (list_any (λ y. nat_eq y x) seen) seen x all (place name (named (column_at t name) h))

sources : (t : Data) (n : ℕ) → ((name : List ℕ) → lacks_column t name ≡ false → place_of name (section (codes "columns") t) < n)
    → (seen : List ℕ) (names : Items) → AllByRecursion (IsBelow n) seen → any_item (is_unknown_source t) names ≡ false
    → AllByRecursion (IsBelow n) (fold (add_place (section (codes "columns") t)) seen (map_items as_str names))
sources t n place seen no_items all h = all
sources t n place seen (item d ds) all h =
    sources t n place (add_place (section (codes "columns") t) seen (as_str d)) ds (source t n place seen (as_str d) all (left (is_unknown_source t d) _ h)) (right (is_unknown_source t d) _ h)

from_column : (t : Data) (n : ℕ) → ((name : List ℕ) → lacks_column t name ≡ false → place_of name (section (codes "columns") t) < n)
    → (kind : ColumnKind) (c : Data) → (holds_facts kind && any_item (is_unknown_source t) (items_at (codes "propertiesFrom") c)) ≡ false
    → AllByRecursion (IsBelow n) (sources_of (section (codes "columns") t) kind c)
from_column t n place Fact c h = sources t n place [] (items_at (codes "propertiesFrom") c) tt h
from_column t n place Groups c h = tt
from_column t n place Comment c h = tt
from_column t n place Plain c h = tt

abbrev TakesBelow : ℕ → Column → Type 0
TakesBelow n c = All (IsBelow n) c.from

each_column : (t : Data) (n : ℕ) → ((name : List ℕ) → lacks_column t name ≡ false → place_of name (section (codes "columns") t) < n)
    → (ms : Members) → any_member (λ _ c. has_unknown_source t c) ms ≡ false → AllByRecursion (TakesBelow n) (map_members (column_of (section (codes "columns") t)) ms)
unfolding column_of
each_column t n place no_members h = tt
each_column t n place (member id c ms) h =
    (All-from_recursion (IsBelow n) _ (from_column t n place (kind_of c) c (left (has_unknown_source t c) _ h)), each_column t n place ms (right (has_unknown_source t c) _ h))

row_id : (t : Data) (n : ℕ) → ((name : List ℕ) → lacks_column t name ≡ false → place_of name (section (codes "columns") t) < n)
    → (o : Option (List ℕ)) → unwrap_or (option_map (lacks_column t) o) false ≡ false
    → IfSome (option_map (λ name. place_of name (section (codes "columns") t)) o) (IsBelow n)
row_id t n place None h = tt
row_id t n place (Some name) h = place name h

column_placed : (t : Data) (name : List ℕ) → lacks_column t name ≡ false → place_of name (section (codes "columns") t) < length (columns_of t)
column_placed t name h = below (column_of (section (codes "columns") t)) name (section (codes "columns") t) (found name (get (codes "columns") t) h)

template_placed : (id : List ℕ) (t : Data) → lacks_named_column t ≡ false → HasColumns (template_of id t)
unfolding HasColumns template_of
template_placed id t h =
    let n = length (columns_of t) in (
      All-from_recursion (TakesBelow n) _ (each_column t n (column_placed t) (section (codes "columns") t) (right (has_unknown_row_id t) _ h)),
      row_id t n (column_placed t) (text_at (codes "rowIdColumn") t) (left (has_unknown_row_id t) _ h),
    )

each_template : (ms : Members) → any_member (λ _ t. lacks_named_column t) ms ≡ false → AllByRecursion HasColumns (map_members template_of ms)
each_template no_members h = tt
each_template (member id t ms) h = (template_placed id t (left (lacks_named_column t) _ h), each_template ms (right (lacks_named_column t) _ h))

templates_placed : (d : Data) → has_unknown_column d ≡ false → All HasColumns (templates_of d)
unfolding has_unknown_column
templates_placed d h = All-from_recursion HasColumns _ (each_template (section (codes "tableTemplates") d) h)

pub all_placed : (d : Data) → has_unknown_template d ≡ false → has_unknown_column d ≡ false → IsInOrder d → has_bad_identifier d ≡ false → IsReport (level_of d) (templates_of d) (tables_of d) (map_members named_text (section (codes "parameters") d))
unfolding IsReport
all_placed d h k ordered good = (tables_placed d h, templates_placed d k, parts_rise d ordered, have_identifiers d good, own_parameters_rise d ordered)

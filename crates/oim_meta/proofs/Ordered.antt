-- A metadata in order gives a report in order, and one without a bad key a report with identifiers.
use Rattle.std.proofs.Common.{◌≡◌, ℕ, List, Bool, true, false, not, ◌||◌, Option, Some, None, Ordering, Less, Equal, Greater, map, refl, nat_cmp}
use Rattle.std.specs.Prelude.{IfSome, codes, unwrap_or, option_and_then}
use Rattle.std.specs.List.{AllByRecursion}
use Rattle.std.specs.List.Sorted.{IsStrictlySortedBy}
use Rattle.std.specs.Map.{keys_of}
use Rattle.std.specs.Ordering.{match_ordering}
use Rattle.std.specs.Cmp.Lexicographic.{slice_cmp}
use Rattle.oim_names.specs.Names.{is_identifier}
use Rattle.serde_json.specs.Data.{Data, null, boolean, number, string, array, object, Members, no_members, member}
use Rattle.serde_json.specs.Find.{get, get_member, as_object}
use Rattle.oim_report.specs.declared.data.Column.{Column}
use Rattle.oim_report.specs.declared.data.ColumnKind.{ColumnKind}
use Rattle.oim_report.specs.declared.data.ColumnKind.TheVariants.{Fact, Groups, Comment, Plain}
use Rattle.oim_report.specs.declared.data.Table.{Table}
use Rattle.oim_report.specs.declared.data.Template.{Template}
use Rattle.oim_meta.specs.Members.{section, any_member, map_members}
use Rattle.oim_meta.specs.Faults.{is_bad_key, any_column, has_bad_identifier}
use Rattle.oim_meta.specs.Order.{names_of, IsInOrder, AreInOrder}
use Rattle.oim_report.specs.Rising.{IsRising}
use Rattle.oim_report.specs.InOrder.{LevelRises, ColumnRises, TemplateRises, PartsRise, AreIdentifiers, HaveIdentifiers}
use Rattle.oim_meta.specs.Value.{named_text, named_dimension, named_level, level_of, kind_of, column_level, groups_of, column_of, columns_of, template_of, templates_of, table_of, tables_of}
use Rattle.oim_meta.proofs.Unrepeated.{left, right}

-- THE PARTS OF A VALUE IN ORDER

found : (k : List ℕ) (ms : Members) → AreInOrder ms → IfSome (get_member k ms) IsInOrder
found k no_members h = tt
found k (member l e ms) h = by (slice_cmp nat_cmp k l) (found k ms h.2)
  where
    by : (o : Ordering) → IfSome (get_member k ms) IsInOrder → IfSome (match_ordering o (get_member k ms) (Some e) (get_member k ms)) IsInOrder
    by Less more = more
    by Equal more = h.1
    by Greater more = more

got : (k : List ℕ) (d : Data) → IsInOrder d → IfSome (get k d) IsInOrder
got k null h = tt
got k (boolean b) h = tt
got k (number n) h = tt
got k (string s) h = tt
got k (array ds) h = tt
got k (object ms) h = found k ms h

members_in_order : (o : Option Data) → IfSome o IsInOrder → AreInOrder (unwrap_or (option_and_then as_object o) no_members)
members_in_order None h = tt
members_in_order (Some null) h = tt
members_in_order (Some (boolean b)) h = tt
members_in_order (Some (number n)) h = tt
members_in_order (Some (string s)) h = tt
members_in_order (Some (array ds)) h = tt
members_in_order (Some (object ms)) h = h

section_in_order : (k : List ℕ) (d : Data) → IsInOrder d → AreInOrder (section k d)
section_in_order k d h = members_in_order (get k d) (got k d h)

rising : (ms : Members) → AreInOrder ms → IsRising (names_of ms)
unfolding IsStrictlySortedBy
rising no_members h = tt
rising (member k d ms) h = (h.0, rising ms h.2)

-- The value made from a member has the name of the member.
names_kept : {X : Type 0} (name : X → List ℕ) (of : List ℕ → Data → X) → ((k : List ℕ) (d : Data) → name (of k d) ≡ k) → (ms : Members) → map name (map_members of ms) ≡ names_of ms
names_kept name of h no_members = refl
names_kept name of h (member k d ms) = rw (h k d, names_kept name of h ms) refl

made_rise : {X : Type 0} (name : X → List ℕ) (of : List ℕ → Data → X) → ((k : List ℕ) (d : Data) → name (of k d) ≡ k) → (ms : Members) → AreInOrder ms → IsRising (map name (map_members of ms))
made_rise name of h ms ordered = rw (names_kept name of h ms) (rising ms ordered)

-- Each value made has a property if it holds for a member whose value is in order.
each_made : {X : Type 0} (P : X → Type 0) (of : List ℕ → Data → X) → ((k : List ℕ) (d : Data) → IsInOrder d → P (of k d)) → (ms : Members) → AreInOrder ms → AllByRecursion P (map_members of ms)
each_made P of h no_members ordered = tt
each_made P of h (member k d ms) ordered = (h k d ordered.1, each_made P of h ms ordered.2)

-- THE PARTS OF A REPORT

level_rises : (d : Data) → IsInOrder d → LevelRises (level_of d)
unfolding level_of
level_rises d h = made_rise (λ e. e.0) named_dimension (λ k e. refl) (section (codes "dimensions") d) (section_in_order (codes "dimensions") d h)

kind_level_rises : (kind : ColumnKind) (c : Data) → IsInOrder c → LevelRises (column_level kind c)
unfolding IsStrictlySortedBy
kind_level_rises Fact c h = level_rises c h
kind_level_rises Groups c h = tt
kind_level_rises Comment c h = tt
kind_level_rises Plain c h = tt

groups_rise : (kind : ColumnKind) (c : Data) → IsInOrder c → IsRising (keys_of (groups_of kind c)) × AllByRecursion (λ g. LevelRises g.1) (groups_of kind c)
unfolding IsStrictlySortedBy
groups_rise Fact c h = (tt, tt)
groups_rise Groups c h =
    let ms = section (codes "propertyGroups") c in
    let ordered = section_in_order (codes "propertyGroups") c h in
    (made_rise (λ e. e.0) named_level (λ k e. refl) ms ordered, each_made (λ g. LevelRises g.1) named_level (λ k d p. level_rises d p) ms ordered)
groups_rise Comment c h = (tt, tt)
groups_rise Plain c h = (tt, tt)

column_rises : (columns : Members) (id : List ℕ) (c : Data) → IsInOrder c → ColumnRises (column_of columns id c)
unfolding column_of
column_rises columns id c h = let groups = groups_rise (kind_of c) c h in (kind_level_rises (kind_of c) c h, groups.0, groups.1)

column_id : (columns : Members) (id : List ℕ) (c : Data) → (column_of columns id c).id ≡ id
unfolding column_of
column_id columns id c = refl

columns_rise : (t : Data) → IsInOrder t → IsRising (map (λ (c : Column). c.id) (columns_of t)) × AllByRecursion ColumnRises (columns_of t)
columns_rise t h =
    let ms = section (codes "columns") t in
    let ordered = section_in_order (codes "columns") t h in
    (made_rise (λ (c : Column). c.id) (column_of ms) (column_id ms) ms ordered, each_made ColumnRises (column_of ms) (column_rises ms) ms ordered)

template_rises : (id : List ℕ) (t : Data) → IsInOrder t → TemplateRises (template_of id t)
unfolding template_of
template_rises id t h = let columns = columns_rise t h in (level_rises t h, columns.0, columns.1)

template_id : (id : List ℕ) (t : Data) → (template_of id t).id ≡ id
unfolding template_of
template_id id t = refl

table_id : (templates : Members) (id : List ℕ) (t : Data) → (table_of templates id t).id ≡ id
unfolding table_of
table_id templates id t = refl

parameters_rise : (templates : Members) (id : List ℕ) (t : Data) → IsInOrder t → IsRising (keys_of (table_of templates id t).parameters)
unfolding table_of
parameters_rise templates id t h = made_rise (λ e. e.0) named_text (λ k e. refl) (section (codes "parameters") t) (section_in_order (codes "parameters") t h)

pub own_parameters_rise : (d : Data) → IsInOrder d → IsRising (keys_of (map_members named_text (section (codes "parameters") d)))
own_parameters_rise d h = made_rise (λ e. e.0) named_text (λ k e. refl) (section (codes "parameters") d) (section_in_order (codes "parameters") d h)

pub parts_rise : (d : Data) → IsInOrder d → PartsRise (level_of d) (templates_of d) (tables_of d)
unfolding PartsRise
parts_rise d h =
    let templates = section (codes "tableTemplates") d in
    let tables = section (codes "tables") d in
    let templates_ordered = section_in_order (codes "tableTemplates") d h in
    let tables_ordered = section_in_order (codes "tables") d h in (
      level_rises d h,
      made_rise (λ (t : Table). t.id) (table_of templates) (table_id templates) tables tables_ordered,
      each_made (λ (t : Table). IsRising (keys_of t.parameters)) (table_of templates) (parameters_rise templates) tables tables_ordered,
      made_rise (λ (t : Template). t.id) template_of template_id templates templates_ordered,
      each_made TemplateRises template_of template_rises templates templates_ordered,
    )

-- IDENTIFIERS

not_bad : (b : Bool) → not b ≡ false → b ≡ true
not_bad true h = refl
not_bad false h = cc h

good_keys : (ms : Members) → any_member is_bad_key ms ≡ false → AreIdentifiers (names_of ms)
good_keys no_members h = tt
good_keys (member k d ms) h = (not_bad (is_identifier k) (left (is_bad_key k d) _ h), good_keys ms (right (is_bad_key k d) _ h))

made_good : {X : Type 0} (name : X → List ℕ) (of : List ℕ → Data → X) → ((k : List ℕ) (d : Data) → name (of k d) ≡ k) → (ms : Members)
    → any_member is_bad_key ms ≡ false → AreIdentifiers (map name (map_members of ms))
made_good name of h ms good = rw (names_kept name of h ms) (good_keys ms good)

abbrev IsGood : Template → Type 0
IsGood t = (is_identifier t.id ≡ true) × AreIdentifiers (map (λ (c : Column). c.id) t.columns)

good_template : (id : List ℕ) (t : Data) → is_bad_key id t ≡ false → any_member is_bad_key (section (codes "columns") t) ≡ false → IsGood (template_of id t)
unfolding template_of
good_template id t h k =
    let ms = section (codes "columns") t in
    (not_bad (is_identifier id) h, made_good (λ (c : Column). c.id) (column_of ms) (column_id ms) ms k)

good_templates : (ms : Members) → any_member is_bad_key ms ≡ false → any_member (λ _ t. any_member is_bad_key (section (codes "columns") t)) ms ≡ false
    → AllByRecursion IsGood (map_members template_of ms)
good_templates no_members h k = tt
good_templates (member id t ms) h k = (
  good_template id t (left (is_bad_key id t) _ h) (left (any_member is_bad_key (section (codes "columns") t)) _ k),
  good_templates ms (right (is_bad_key id t) _ h) (right (any_member is_bad_key (section (codes "columns") t)) _ k),
)

pub have_identifiers : (d : Data) → has_bad_identifier d ≡ false → HaveIdentifiers (templates_of d) (tables_of d)
unfolding HaveIdentifiers has_bad_identifier
have_identifiers d h =
    let templates = section (codes "tableTemplates") d in
    let tables = section (codes "tables") d in
    let both = left (any_member is_bad_key templates || any_member is_bad_key tables) (any_column is_bad_key d) h in
    let keys : any_member is_bad_key templates ≡ false = left (any_member is_bad_key templates) _ both in
    let table_keys : any_member is_bad_key tables ≡ false = right (any_member is_bad_key templates) _ both in
    let column_keys : any_column is_bad_key d ≡ false = right (any_member is_bad_key templates || any_member is_bad_key tables) _ h in
    (made_good (λ (t : Table). t.id) (table_of templates) (table_id templates) tables table_keys, good_templates templates keys column_keys)

-- The tests for the shapes of a metadata pass exactly if a part does not have its shape.
use Rattle.std.proofs.Common.{◌≡◌, ℕ, List, [], refl, codes, Some, None, Option, Bool, true, false, not, ◌&&◌, ◌||◌}
use Rattle.std.specs.Prelude.{◌≢◌, ◌↔◌, IfSome, IsSome, IsSomeAnd, is_some, is_none, unwrap_or, option_map, bytes_eq}
use Rattle.std.proofs.lemmas.Slice.Eq.{bytes_eq-Decides}
use Rattle.serde_json.specs.Data.{Data, Items, no_items, item, Members, no_members, member}
use Rattle.serde_json.specs.Find.{get, as_array, as_bool, as_object, as_str}
use Rattle.oim_meta.specs.Members.{text_at, any_member, any_item, if_there, no_object_or}
use Rattle.oim_meta.specs.Faults.{is_csv, has_no_report, is_no_texts, has_bad_taxonomy, is_no_empty_list, is_no_empty_object, info_at, is_unsupported}
use Rattle.oim_meta.specs.Faults.{has_bad_section, is_bad_group, is_fact, has_bad_sources, is_bad_column, is_bad_template, lacks_url, is_bad_table, has_bad_shape}
use Rattle.oim_meta.specs.Faults.{is_no_text, is_no_object, is_no_flag}
use Rattle.oim_names.specs.PlainPath.{is_plain_path}
use Rattle.oim_meta.specs.Shapes.{AllMembers, AllItems, IsText, IsFlag, IsObject, IsObjectOf, IsListOf, IsCsvDocument, HasTaxonomy, StandsAlone}
use Rattle.oim_meta.specs.Shapes.{MayHaveDimensions, IsGroup, IsColumn, IsTemplate, IsTable, HasShape, Refutes}
use Rattle.oim_meta.proofs.Unrepeated.{left, right}

pub either : {P Q : Type 0} (a b : Bool) → Refutes a P → Refutes b Q → Refutes (a || b) (P × Q)
either a b r s = (λ h. (r.0 (left a b h), s.0 (right a b h)), λ p. rw (r.1 p.0, s.1 p.1) refl)

pub three : {P Q R : Type 0} (a b c : Bool) → Refutes a P → Refutes b Q → Refutes c R → Refutes (a || b || c) (P × Q × R)
three a b c r s t = (
  λ h. let m = left (a || b) c h in (r.0 (left a b m), s.0 (right a b m), t.0 (right (a || b) c h)),
  λ p. rw (r.1 p.0, s.1 p.1, t.1 p.2) refl,
)

five : {P Q R S T : Type 0} (a b c d e : Bool) → Refutes a P → Refutes b Q → Refutes c R → Refutes d S → Refutes e T
    → Refutes (a || b || c || d || e) (P × Q × R × S × T)
five a b c d e p q r s t = (
  λ h.
      let m = left (a || b || c || d) e h in
      let n = left (a || b || c) d m in
      let o = left (a || b) c n in
      (p.0 (left a b o), q.0 (right a b o), r.0 (right (a || b) c n), s.0 (right (a || b || c) d m), t.0 (right (a || b || c || d) e h)),
  λ x. rw (p.1 x.0, q.1 x.1, r.1 x.2, s.1 x.3, t.1 x.4) refl,
)

-- A part that may exist, and a part that must exist.
pub optional : {A : Type 0} (p : A → Bool) (P : A → Type 0) → ((x : A) → Refutes (p x) (P x)) → (o : Option A) → Refutes (unwrap_or (option_map p o) false) (IfSome o P)
optional p P r None = (λ h. tt, λ h. refl)
optional p P r (Some x) = r x

pub needed : {A : Type 0} (p : A → Bool) (P : A → Type 0) → ((x : A) → Refutes (p x) (P x)) → (o : Option A) → Refutes (unwrap_or (option_map p o) true) (IsSomeAnd o P)
needed p P r None = (λ h. absurd cc, λ h. absurd h)
needed p P r (Some x) = r x

pub members : (p : List ℕ → Data → Bool) (P : List ℕ → Data → Type 0) → ((k : List ℕ) (d : Data) → Refutes (p k d) (P k d))
    → (ms : Members) → Refutes (any_member p ms) (AllMembers P ms)
members p P r no_members = (λ h. tt, λ h. refl)
members p P r (member k d ms) = either (p k d) (any_member p ms) (r k d) (members p P r ms)

items : (p : Data → Bool) (P : Data → Type 0) → ((d : Data) → Refutes (p d) (P d)) → (ds : Items) → Refutes (any_item p ds) (AllItems P ds)
items p P r no_items = (λ h. tt, λ h. refl)
items p P r (item d ds) = either (p d) (any_item p ds) (r d) (items p P r ds)

object_of : (p : List ℕ → Data → Bool) (P : List ℕ → Data → Type 0) → ((k : List ℕ) (d : Data) → Refutes (p k d) (P k d))
    → (d : Data) → Refutes (no_object_or (any_member p) d) (IsObjectOf P d)
object_of p P r d = needed (any_member p) (AllMembers P) (members p P r) (as_object d)

list_of : (p : Data → Bool) (P : Data → Type 0) → ((d : Data) → Refutes (p d) (P d)) → (d : Data) → Refutes (unwrap_or (option_map (any_item p) (as_array d)) true) (IsListOf P d)
list_of p P r d = needed (any_item p) (AllItems P) (items p P r) (as_array d)

-- The kinds of values.
pub isnt : (b : Bool) → Refutes (not b) (b ≡ true)
isnt true = (λ h. refl, λ h. refl)
isnt false = (λ h. absurd cc, λ h. absurd cc)

pub text : (d : Data) → Refutes (is_no_text d) (IsText d)
text d = isnt (is_some (as_str d))

an_object : (d : Data) → Refutes (is_no_object d) (IsObject d)
an_object d = isnt (is_some (as_object d))

pub absent : {A : Type 0} (o : Option A) → Refutes (is_none o) (IsSome o)
absent None = (λ h. absurd cc, λ h. absurd cc)
absent (Some x) = (λ h. refl, λ h. refl)

flag : (d : Data) → Refutes (is_no_flag d) (IsFlag d)
flag d = absent (as_bool d)

texts : (d : Data) → Refutes (is_no_texts d) (IsListOf IsText d)
texts = list_of is_no_text IsText text

-- DOCUMENTINFO
same_text : (t u : List ℕ) → (bytes_eq t u ≡ true) ↔ (t ≡ u)
same_text t u = let d = bytes_eq-Decides t u in (λ h. d.0 h, λ e. d.1 e)

csv_type : (i : Data) → (is_csv i ≡ true) ↔ IsSomeAnd (text_at (codes "documentType") i) (λ t. t ≡ codes "https://xbrl.org/2021/xbrl-csv")
csv_type i = by (text_at (codes "documentType") i)
  where
    by : (o : Option (List ℕ)) → (unwrap_or (option_map (λ t. bytes_eq t (codes "https://xbrl.org/2021/xbrl-csv")) o) false ≡ true)
        ↔ IsSomeAnd o (λ t. t ≡ codes "https://xbrl.org/2021/xbrl-csv")
    by None = (λ h. absurd cc, λ h. absurd h)
    by (Some t) = same_text t (codes "https://xbrl.org/2021/xbrl-csv")

pub document_law : (d : Data) → Refutes (has_no_report d) (IsCsvDocument d)
unfolding has_no_report
document_law d = by (get (codes "documentInfo") d)
  where
    by : (o : Option Data) → Refutes (not (if_there is_csv o)) (IsSomeAnd o (λ i. IsSomeAnd (text_at (codes "documentType") i) (λ t. t ≡ codes "https://xbrl.org/2021/xbrl-csv")))
    by None = (λ h. absurd cc, λ h. absurd h)
    by (Some i) = let n = isnt (is_csv i) in let c = csv_type i in (λ h. c.0 (n.0 h), λ p. n.1 (c.1 p))

pub taxonomy_law : (i : Data) → Refutes (has_bad_taxonomy i) (HasTaxonomy i)
unfolding has_bad_taxonomy
taxonomy_law i =
    either _ _ (needed is_no_texts (IsListOf IsText) texts (get (codes "taxonomy") i)) (optional is_no_text IsText text (get (codes "baseURL") i))

anything : Refutes true ⊥
anything = (λ h. absurd cc, λ h. absurd h)

pub alone_law : (d : Data) → Refutes (is_unsupported d) (StandsAlone d)
unfolding is_unsupported
alone_law d =
    either _ _ (optional is_no_empty_list (IsListOf (λ _. ⊥)) (list_of (λ _. true) (λ _. ⊥) (λ _. anything)) (info_at (codes "extends") d))
    (optional is_no_empty_object (IsObjectOf (λ _ _. ⊥)) (object_of (λ _ _. true) (λ _ _. ⊥) (λ _ _. anything)) (get (codes "links") d))

-- TEMPLATES AND TABLES
dimensions : (d : Data) → Refutes (has_bad_section d) (MayHaveDimensions d)
dimensions d = optional is_no_object IsObject an_object (get (codes "dimensions") d)

named_text : (name : List ℕ) → Refutes (bytes_eq name []) (name ≢ [])
named_text name = by (bytes_eq name []) refl
  where
    by : (b : Bool) → bytes_eq name [] ≡ b → Refutes b (name ≢ [])
    by true e = let d = bytes_eq-Decides name [] in (λ h. absurd cc, λ n. absurd (n (d.0 e)))
    by false e = let d = bytes_eq-Decides name [] in (λ h same. let t = d.1 same in absurd cc, λ n. refl)

group : (name : List ℕ) (g : Data) → Refutes (is_bad_group name g) (IsGroup name g)
group name g = three (bytes_eq name []) (is_no_object g) (has_bad_section g) (named_text name) (an_object g) (dimensions g)

when : {Q : Type 0} (a b : Bool) → Refutes b Q → Refutes (a && b) (a ≡ true → Q)
when true b r = (λ h _. r.0 h, λ q. r.1 (q refl))
when false b r = (λ h e. absurd cc, λ q. refl)

sources : (c : Data) → Refutes (has_bad_sources c) (IsSome (get (codes "dimensions") c) → IfSome (get (codes "propertiesFrom") c) (IsListOf IsText))
sources c = when (is_fact c) _ (optional is_no_texts (IsListOf IsText) texts (get (codes "propertiesFrom") c))

column : (name : List ℕ) (c : Data) → Refutes (is_bad_column name c) (IsColumn name c)
column name c =
    five (is_no_object c) (has_bad_section c) (if_there (no_object_or (any_member is_bad_group)) (get (codes "propertyGroups") c))
    (if_there is_no_flag (get (codes "comment") c)) (has_bad_sources c) (an_object c) (dimensions c)
    (optional (no_object_or (any_member is_bad_group)) (IsObjectOf IsGroup) (object_of is_bad_group IsGroup group) (get (codes "propertyGroups") c))
    (optional is_no_flag IsFlag flag (get (codes "comment") c)) (sources c)

template : (name : List ℕ) (t : Data) → Refutes (is_bad_template name t) (IsTemplate name t)
template name t =
    three (unwrap_or (option_map (no_object_or (any_member is_bad_column)) (get (codes "columns") t)) true) (has_bad_section t)
    (if_there is_no_text (get (codes "rowIdColumn") t))
    (needed (no_object_or (any_member is_bad_column)) (IsObjectOf IsColumn) (object_of is_bad_column IsColumn column) (get (codes "columns") t))
    (dimensions t) (optional is_no_text IsText text (get (codes "rowIdColumn") t))

table : (name : List ℕ) (t : Data) → Refutes (is_bad_table name t) (IsTable name t)
table name t =
    three (lacks_url t) (if_there is_no_text (get (codes "template") t)) (if_there is_no_flag (get (codes "optional") t))
    (needed (λ url. not (is_plain_path url)) (λ url. is_plain_path url ≡ true) (λ url. isnt (is_plain_path url)) (text_at (codes "url") t))
    (optional is_no_text IsText text (get (codes "template") t)) (optional is_no_flag IsFlag flag (get (codes "optional") t))

pub shape_law : (d : Data) → Refutes (has_bad_shape d) (HasShape d)
unfolding has_bad_shape
shape_law d =
    three (has_bad_section d) (if_there (no_object_or (any_member is_bad_template)) (get (codes "tableTemplates") d))
    (if_there (no_object_or (any_member is_bad_table)) (get (codes "tables") d)) (dimensions d)
    (optional (no_object_or (any_member is_bad_template)) (IsObjectOf IsTemplate) (object_of is_bad_template IsTemplate template) (get (codes "tableTemplates") d))
    (optional (no_object_or (any_member is_bad_table)) (IsObjectOf IsTable) (object_of is_bad_table IsTable table) (get (codes "tables") d))

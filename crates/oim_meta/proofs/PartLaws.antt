-- The tests for namespaces, identifiers, kinds of columns and templates pass exactly if a part does
-- not have its shape.
use Rattle.std.proofs.Common.{◌≡◌, ℕ, List, refl, codes, Some, None, Option, Bool, true, false, not, ◌&&◌, ◌||◌}
use Rattle.std.specs.Prelude.{◌↔◌, IsSomeAnd, unwrap_or, option_and_then, bytes_eq}
use Rattle.std.specs.Bool.{Decides}
use Rattle.std.proofs.lemmas.Slice.Eq.{bytes_eq-Decides}
use Rattle.serde_json.specs.Data.{Data, Members}
use Rattle.serde_json.specs.Find.{get, as_bool, as_object}
use Rattle.oim_names.specs.Names.{is_identifier, is_ncname}
use Rattle.oim_meta.specs.Members.{any_member, is_text, no_object_or, section, text_of}
use Rattle.oim_meta.specs.Order.{has_other, repeats_text}
use Rattle.oim_meta.specs.Faults.{has_bad_identifier, has_bad_namespaces, has_bad_prefix, has_mixed_column, has_unknown_template, is_bad_key, is_bad_prefix}
use Rattle.oim_meta.specs.Faults.{any_column, is_comment, is_fact, is_groups, is_mixed_column, lacks_template_of, template_name}
use Rattle.oim_meta.specs.Shapes.{AllColumns, AllMembers, HasIdentifier, HasIdentifiers, HasNamespaces, HasColumnKinds, HasTemplate, HasTemplates}
use Rattle.oim_meta.specs.Shapes.{HaveOwnUris, IsComment, IsOfOneKind, IsPrefix, Refutes}
use Rattle.oim_report.specs.declared.data.ColumnKind.{ColumnKind}
use Rattle.oim_report.specs.declared.data.ColumnKind.TheVariants.{Fact, Groups, Comment, Plain}
use Rattle.oim_meta.proofs.ShapeLaws.{absent, either, isnt, members, needed, optional, text, three}

-- NAMESPACES
prefix : (name : List ℕ) (uri : Data) → Refutes (is_bad_prefix name uri) (IsPrefix name uri)
prefix name uri = either (not (is_ncname name)) (not (is_text uri)) (isnt (is_ncname name)) (text uri)

-- Two names that are the same if their texts are.
same_name : (p q t u : List ℕ) → Refutes (not (bytes_eq p q) && bytes_eq t u) (t ≡ u → p ≡ q)
same_name p q t u = by (bytes_eq p q) (bytes_eq t u) (bytes_eq-Decides p q) (bytes_eq-Decides t u)
  where
    by : (a b : Bool) → Decides a (p ≡ q) → Decides b (t ≡ u) → Refutes (not a && b) (t ≡ u → p ≡ q)
    by true b d e = (λ h same. d.0 refl, λ f. refl)
    by false true d e = (λ h. absurd cc, λ f. let no = d.1 (f (e.0 refl)) in absurd cc)
    by false false d e = (λ h same. let no = e.1 same in absurd cc, λ f. refl)

own_uris : (ms : Members) → Refutes (repeats_text ms) (HaveOwnUris ms)
own_uris ms =
    members (λ p u. has_other p (text_of u) ms) (λ p u. AllMembers (λ q v. text_of u ≡ text_of v → p ≡ q) ms)
    (λ p u. members (λ q v. not (bytes_eq p q) && bytes_eq (text_of u) (text_of v)) (λ q v. text_of u ≡ text_of v → p ≡ q)
    (λ q v. same_name p q (text_of u) (text_of v)) ms) ms

prefixes : (ms : Members) → Refutes (has_bad_prefix ms) (AllMembers IsPrefix ms × HaveOwnUris ms)
prefixes ms = either (any_member is_bad_prefix ms) (repeats_text ms) (members is_bad_prefix IsPrefix prefix ms) (own_uris ms)

pub namespaces_law : (i : Data) → Refutes (has_bad_namespaces i) (HasNamespaces i)
unfolding has_bad_namespaces
namespaces_law i =
    optional (no_object_or has_bad_prefix) (λ d. IsSomeAnd (as_object d) (λ ms. AllMembers IsPrefix ms × HaveOwnUris ms))
    (λ d. needed has_bad_prefix (λ ms. AllMembers IsPrefix ms × HaveOwnUris ms) prefixes (as_object d)) (get (codes "namespaces") i)

-- IDENTIFIERS
columns : (p : List ℕ → Data → Bool) (P : List ℕ → Data → Type 0) → ((k : List ℕ) (d : Data) → Refutes (p k d) (P k d))
    → (d : Data) → Refutes (any_column p d) (AllColumns P d)
columns p P r d =
    members (λ _ t. any_member p (section (codes "columns") t)) (λ _ t. AllMembers P (section (codes "columns") t))
    (λ _ t. members p P r (section (codes "columns") t)) (section (codes "tableTemplates") d)

identifier : (key : List ℕ) (d : Data) → Refutes (is_bad_key key d) (HasIdentifier key d)
identifier key d = isnt (is_identifier key)

pub identifiers_law : (d : Data) → Refutes (has_bad_identifier d) (HasIdentifiers d)
unfolding has_bad_identifier
identifiers_law d =
    three (any_member is_bad_key (section (codes "tableTemplates") d)) (any_member is_bad_key (section (codes "tables") d)) (any_column is_bad_key d)
    (members is_bad_key HasIdentifier identifier (section (codes "tableTemplates") d)) (members is_bad_key HasIdentifier identifier (section (codes "tables") d))
    (columns is_bad_key HasIdentifier identifier d)

-- KINDS
one_of_three : (a b e : Bool) {P : Type 0} → (e ≡ true) ↔ P
    → Refutes ((a && b) || (a && e) || (b && e)) ((kind : ColumnKind) × (a ≡ true → kind ≡ Fact) × (b ≡ true → kind ≡ Groups) × (P → kind ≡ Comment))
one_of_three true true e p = (λ h. absurd cc, λ k. let fact = k.1 refl in let groups = k.2 refl in absurd cc)
one_of_three true false true p = (λ h. absurd cc, λ k. let fact = k.1 refl in let comment = k.3 (p.0 refl) in absurd cc)
one_of_three true false false p = (λ h. (Fact, λ i. refl, λ i. absurd cc, λ i. let no = p.1 i in absurd cc), λ k. refl)
one_of_three false true true p = (λ h. absurd cc, λ k. let groups = k.2 refl in let comment = k.3 (p.0 refl) in absurd cc)
one_of_three false true false p = (λ h. (Groups, λ i. absurd cc, λ i. refl, λ i. let no = p.1 i in absurd cc), λ k. refl)
one_of_three false false true p = (λ h. (Comment, λ i. absurd cc, λ i. absurd cc, λ i. refl), λ k. refl)
one_of_three false false false p = (λ h. (Plain, λ i. absurd cc, λ i. absurd cc, λ i. let no = p.1 i in absurd cc), λ k. refl)

comment : (c : Data) → (is_comment c ≡ true) ↔ IsComment c
comment c = flag (option_and_then as_bool (get (codes "comment") c))
  where
    flag : (b : Option Bool) → (unwrap_or b false ≡ true) ↔ (b ≡ Some true)
    flag None = (λ h. absurd cc, λ h. absurd cc)
    flag (Some true) = (λ h. refl, λ h. refl)
    flag (Some false) = (λ h. absurd cc, λ h. absurd cc)

kind : (name : List ℕ) (c : Data) → Refutes (is_mixed_column name c) (IsOfOneKind name c)
kind name c = one_of_three (is_fact c) (is_groups c) (is_comment c) (comment c)

pub kinds_law : (d : Data) → Refutes (has_mixed_column d) (HasColumnKinds d)
unfolding has_mixed_column
kinds_law d = columns is_mixed_column IsOfOneKind kind d

-- TEMPLATES
template : (templates : Option Data) (id : List ℕ) (t : Data) → Refutes (lacks_template_of templates id t) (HasTemplate templates id t)
template None id t = (λ h. absurd cc, λ h. absurd h)
template (Some ts) id t = absent (get (template_name id t) ts)

pub templates_law : (d : Data) → Refutes (has_unknown_template d) (HasTemplates d)
unfolding has_unknown_template
templates_law d =
    members (lacks_template_of (get (codes "tableTemplates") d)) (HasTemplate (get (codes "tableTemplates") d)) (template (get (codes "tableTemplates") d))
    (section (codes "tables") d)

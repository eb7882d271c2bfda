-- Parts of a metadata that have their shape, and parts that do not, on worked cases. The results
-- are from xBRL-CSV 1.0.
use Rattle.std.proofs.Common.{◌≡◌, ◌∙◌, ℕ, List, refl, sym, ap, codes, true, false, bytes_eq}
use Rattle.std.specs.Str.{chars, is_utf8}
use lib.Utf8.{encode}
use Rattle.serde_json.specs.Data.{Data, null, boolean, string, object, no_members, member}
use Rattle.oim_names.specs.Names.{is_identifier, is_name_char, is_name_start, is_ncname, is_plain_char}
use Rattle.oim_meta.specs.Shapes.{HasColumnKinds, HasIdentifiers, HasNamespaces, HasTemplates, IsOfOneKind}
use Rattle.oim_report.specs.declared.data.ColumnKind.TheVariants.{Fact, Groups, Comment, Plain}

abbrev nothing : Data
nothing = object no_members

abbrev one : List ℕ → Data → Data
one k d = object (member k d no_members)

abbrev two : List ℕ → Data → List ℕ → Data → Data
two k d l e = object (member k d (member l e no_members))

differ : {P : Type 0} (t u : List ℕ) → bytes_eq t u ≡ false → bytes_eq t t ≡ true → t ≡ u → P
differ t u unlike like e = let wrong : true ≡ false = sym like ∙ ap (bytes_eq t) e ∙ unlike in absurd cc

-- NAMESPACES
two_uris : HasNamespaces (one (codes "namespaces") (two (codes "a") (string (codes "u")) (codes "b") (string (codes "v"))))
unfolding is_ncname is_name_char is_name_start chars is_utf8 encode
two_uris = (
  ((refl, refl), ((refl, refl), tt)),
  ((λ e. refl, (differ (codes "u") (codes "v") refl refl, tt)), ((differ (codes "v") (codes "u") refl refl, (λ e. refl, tt)), tt)),
)

no_namespaces : HasNamespaces nothing
no_namespaces = tt

one_uri_twice : HasNamespaces (one (codes "namespaces") (two (codes "a") (string (codes "u")) (codes "b") (string (codes "u")))) → ⊥
one_uri_twice h = differ (codes "a") (codes "b") refl refl (h.1.0.1.0 refl)

prefix_with_a_colon : HasNamespaces (one (codes "namespaces") (one (codes "a:b") (string (codes "u")))) → ⊥
unfolding is_ncname is_name_char is_name_start chars is_utf8 encode
prefix_with_a_colon h = let good : false ≡ true = h.0.0.0 in absurd cc

uri_that_is_no_text : HasNamespaces (one (codes "namespaces") (one (codes "a") null)) → ⊥
uri_that_is_no_text h = let good : false ≡ true = h.0.0.1 in absurd cc

namespaces_that_are_no_object : HasNamespaces (one (codes "namespaces") null) → ⊥
namespaces_that_are_no_object h = h

-- IDENTIFIERS of templates, columns and tables.
abbrev named : List ℕ → List ℕ → List ℕ → Data
named template column table = two (codes "tableTemplates") (one template (one (codes "columns") (one column nothing))) (codes "tables") (one table nothing)

identifiers : HasIdentifiers (named (codes "p") (codes "c") (codes "t"))
unfolding is_identifier is_plain_char is_ncname is_name_char is_name_start chars is_utf8 encode
identifiers = ((refl, tt), (refl, tt), ((refl, tt), tt))

template_with_a_dot : HasIdentifiers (named (codes "p.q") (codes "c") (codes "t")) → ⊥
unfolding is_identifier is_plain_char is_ncname is_name_char is_name_start chars is_utf8 encode
template_with_a_dot h = let good : false ≡ true = h.0.0 in absurd cc

table_with_a_dot : HasIdentifiers (named (codes "p") (codes "c") (codes "t.u")) → ⊥
unfolding is_identifier is_plain_char is_ncname is_name_char is_name_start chars is_utf8 encode
table_with_a_dot h = let good : false ≡ true = h.1.0 in absurd cc

column_with_a_dot : HasIdentifiers (named (codes "p") (codes "c.d") (codes "t")) → ⊥
unfolding is_identifier is_plain_char is_ncname is_name_char is_name_start chars is_utf8 encode
column_with_a_dot h = let good : false ≡ true = h.2.0.0 in absurd cc

-- KINDS OF COLUMNS: a column whose comment is false is not a comment column.
fact_column : IsOfOneKind (codes "c") (two (codes "comment") (boolean false) (codes "dimensions") nothing)
fact_column = (Fact, λ e. refl, λ e. absurd cc, λ e. absurd cc)

group_column : IsOfOneKind (codes "c") (one (codes "propertyGroups") nothing)
group_column = (Groups, λ e. absurd cc, λ e. refl, λ e. absurd cc)

comment_column : IsOfOneKind (codes "c") (one (codes "comment") (boolean true))
comment_column = (Comment, λ e. absurd cc, λ e. absurd cc, λ e. refl)

plain_column : IsOfOneKind (codes "c") nothing
plain_column = (Plain, λ e. absurd cc, λ e. absurd cc, λ e. absurd cc)

facts_and_groups : IsOfOneKind (codes "c") (two (codes "dimensions") nothing (codes "propertyGroups") nothing) → ⊥
facts_and_groups k = let fact = k.1 refl in let groups = k.2 refl in absurd cc

facts_and_comment : IsOfOneKind (codes "c") (two (codes "comment") (boolean true) (codes "dimensions") nothing) → ⊥
facts_and_comment k = let fact = k.1 refl in let comment = k.3 refl in absurd cc

groups_and_comment : IsOfOneKind (codes "c") (two (codes "comment") (boolean true) (codes "propertyGroups") nothing) → ⊥
groups_and_comment k = let groups = k.2 refl in let comment = k.3 refl in absurd cc

column_kinds : HasColumnKinds (named (codes "p") (codes "c") (codes "t"))
column_kinds = ((plain_column, tt), tt)

-- TEMPLATES: a table that names no template has the template of its own name.
abbrev with_template : List ℕ → List ℕ → Data → Data
with_template template table t = two (codes "tableTemplates") (one template nothing) (codes "tables") (one table t)

own_name : HasTemplates (with_template (codes "t") (codes "t") nothing)
own_name = (refl, tt)

named_template : HasTemplates (with_template (codes "p") (codes "t") (one (codes "template") (string (codes "p"))))
named_template = (refl, tt)

own_name_hidden : HasTemplates (with_template (codes "t") (codes "t") (one (codes "template") (string (codes "p")))) → ⊥
own_name_hidden h = let there : false ≡ true = h.0 in absurd cc

no_templates : HasTemplates (one (codes "tables") (one (codes "t") nothing)) → ⊥
no_templates h = h.0

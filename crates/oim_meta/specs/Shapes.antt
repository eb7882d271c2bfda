-- The shapes of a metadata and its parts (xBRL-CSV 1.0: documentInfo, namespaces, table templates,
-- columns, property groups and tables). A part that does not have its shape is a fault.
use Rattle.std.specs.Prelude.{◌≡◌, ◌≢◌, ◌↔◌, ℕ, List, [], Option, Some, IfSome, IsSome, IsSomeAnd, Bool, true, false, codes, ⊤, option_and_then}
use Rattle.serde_json.specs.Data.{Data, Items, no_items, item, Members, no_members, member}
use Rattle.serde_json.specs.Find.{get, as_array, as_bool, as_object, as_str}
use Rattle.oim_names.specs.Names.{is_identifier, is_ncname}
use Rattle.oim_meta.specs.Members.{section, text_at, text_of}
use Rattle.oim_meta.specs.Faults.{info_at, template_name}
use Rattle.oim_names.specs.PlainPath.{is_plain_path}
use Rattle.oim_report.specs.declared.data.ColumnKind.{ColumnKind}
use Rattle.oim_report.specs.declared.data.ColumnKind.TheVariants.{Fact, Groups, Comment}

abbrev pub AllMembers : (List ℕ → Data → Type 0) → Members → Type 0
AllMembers P no_members = ⊤
AllMembers P (member k d ms) = P k d × AllMembers P ms

abbrev pub AllItems : (Data → Type 0) → Items → Type 0
AllItems P no_items = ⊤
AllItems P (item d ds) = P d × AllItems P ds

-- The kinds of JSON values.
abbrev pub IsText : Data → Type 0
IsText d = IsSome (as_str d)

abbrev pub IsFlag : Data → Type 0
IsFlag d = IsSome (as_bool d)

abbrev pub IsObject : Data → Type 0
IsObject d = IsSome (as_object d)

abbrev pub IsObjectOf : (List ℕ → Data → Type 0) → Data → Type 0
IsObjectOf P d = IsSomeAnd (as_object d) (AllMembers P)

abbrev pub IsListOf : (Data → Type 0) → Data → Type 0
IsListOf P d = IsSomeAnd (as_array d) (AllItems P)

-- A document of xBRL-CSV.
abbrev pub IsCsvDocument : Data → Type 0
IsCsvDocument d = IsSomeAnd (get (codes "documentInfo") d) (λ i. IsSomeAnd (text_at (codes "documentType") i) (λ t. t ≡ codes "https://xbrl.org/2021/xbrl-csv"))

-- A prefix is an NCName, and its URI a text.
abbrev pub IsPrefix : List ℕ → Data → Type 0
IsPrefix prefix uri = (is_ncname prefix ≡ true) × IsText uri

-- Two prefixes with the same URI are the same.
abbrev pub HaveOwnUris : Members → Type 0
HaveOwnUris ms = AllMembers (λ p u. AllMembers (λ q v. text_of u ≡ text_of v → p ≡ q) ms) ms

-- In documentInfo: namespaces, if it exists, is an object of prefixes, and no URI has two prefixes.
abbrev pub HasNamespaces : Data → Type 0
HasNamespaces i = IfSome (get (codes "namespaces") i) (λ d. IsSomeAnd (as_object d) (λ ms. AllMembers IsPrefix ms × HaveOwnUris ms))

-- In documentInfo: taxonomy is a list of texts, and baseURL, if it exists, is a text.
abbrev pub HasTaxonomy : Data → Type 0
HasTaxonomy i = IsSomeAnd (get (codes "taxonomy") i) (IsListOf IsText) × IfSome (get (codes "baseURL") i) IsText

-- Extends and links are empty if they exist.
abbrev pub StandsAlone : Data → Type 0
StandsAlone d = IfSome (info_at (codes "extends") d) (IsListOf (λ _. ⊥)) × IfSome (get (codes "links") d) (IsObjectOf (λ _ _. ⊥))

-- Each column of each template.
abbrev pub AllColumns : (List ℕ → Data → Type 0) → Data → Type 0
AllColumns P d = AllMembers (λ _ t. AllMembers P (section (codes "columns") t)) (section (codes "tableTemplates") d)

-- A key that is an identifier.
abbrev pub HasIdentifier : List ℕ → Data → Type 0
HasIdentifier key _ = is_identifier key ≡ true

-- The keys of templates, tables and columns are identifiers.
abbrev pub HasIdentifiers : Data → Type 0
HasIdentifiers d =
    AllMembers HasIdentifier (section (codes "tableTemplates") d) × AllMembers HasIdentifier (section (codes "tables") d) × AllColumns HasIdentifier d

-- `dimensions` is an object if it exists.
abbrev pub MayHaveDimensions : Data → Type 0
MayHaveDimensions d = IfSome (get (codes "dimensions") d) IsObject

-- A property group: an object under a name that is not empty.
abbrev pub IsGroup : List ℕ → Data → Type 0
IsGroup name g = (name ≢ []) × IsObject g × MayHaveDimensions g

-- A column: an object. If they exist, its dimensions are an object, its propertyGroups an object of
-- such groups, and its comment a truth value. If it has dimensions, its propertiesFrom, if it
-- exists, is a list of texts.
abbrev pub IsColumn : List ℕ → Data → Type 0
IsColumn _ c =
    IsObject c × MayHaveDimensions c × IfSome (get (codes "propertyGroups") c) (IsObjectOf IsGroup) × IfSome (get (codes "comment") c) IsFlag
    × (IsSome (get (codes "dimensions") c) → IfSome (get (codes "propertiesFrom") c) (IsListOf IsText))

-- A template: it has an object of columns. If they exist, dimensions is an object and rowIdColumn a
-- text.
abbrev pub IsTemplate : List ℕ → Data → Type 0
IsTemplate _ t =
    IsSomeAnd (get (codes "columns") t) (IsObjectOf IsColumn) × MayHaveDimensions t × IfSome (get (codes "rowIdColumn") t) IsText

-- A table: its url is a plain path. If they exist, template is a text and optional a truth value.
abbrev pub IsTable : List ℕ → Data → Type 0
IsTable _ t =
    IsSomeAnd (text_at (codes "url") t) (λ url. is_plain_path url ≡ true) × IfSome (get (codes "template") t) IsText
    × IfSome (get (codes "optional") t) IsFlag

-- A metadata: if they exist, its dimensions are an object, and its templates and tables have their
-- shapes.
abbrev pub HasShape : Data → Type 0
HasShape d =
    MayHaveDimensions d × IfSome (get (codes "tableTemplates") d) (IsObjectOf IsTemplate) × IfSome (get (codes "tables") d) (IsObjectOf IsTable)

-- `comment` of a column is true.
abbrev pub IsComment : Data → Type 0
IsComment c = option_and_then as_bool (get (codes "comment") c) ≡ Some true

-- A column is of one kind: a fact column if it has dimensions, a property group column if it has
-- property groups, and a comment column if it is a comment.
abbrev pub IsOfOneKind : List ℕ → Data → Type 0
IsOfOneKind _ c =
    (kind : ColumnKind) × (IsSome (get (codes "dimensions") c) → kind ≡ Fact) × (IsSome (get (codes "propertyGroups") c) → kind ≡ Groups)
    × (IsComment c → kind ≡ Comment)

-- Each column is of one kind.
abbrev pub HasColumnKinds : Data → Type 0
HasColumnKinds = AllColumns IsOfOneKind

-- A table's template is one of these. Its name is the table's own name if the table gives none.
abbrev pub HasTemplate : Option Data → List ℕ → Data → Type 0
HasTemplate templates id t = IsSomeAnd templates (λ ts. IsSome (get (template_name id t) ts))

-- Each table has a template.
abbrev pub HasTemplates : Data → Type 0
HasTemplates d = AllMembers (HasTemplate (get (codes "tableTemplates") d)) (section (codes "tables") d)

-- A test fails exactly if P holds.
abbrev pub Refutes : Bool → Type 0 → Type 0
Refutes test P = (test ≡ false) ↔ P

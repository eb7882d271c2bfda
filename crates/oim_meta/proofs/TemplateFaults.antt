-- A walk finds each fault of templates exactly if the test for the fault passes.
use Rattle.std.proofs.Common.{◌≡◌, ◌∙◌, ℕ, List, [], Bool, true, false, not, ◌||◌, ◌&&◌, refl, sym, ap, codes, bytes_eq}
use Rattle.serde_json.specs.Data.{Data, Members, no_members, member}
use Rattle.serde_json.specs.Find.{get}
use Rattle.oim_names.specs.Names.{is_identifier}
use Rattle.oim_meta.specs.Known.{Known}
use Rattle.oim_entries.specs.declared.fault.MetaFault.{MetaFault}
use Rattle.oim_entries.specs.declared.fault.MetaFault.TheVariants.{BadIdentifier, BadTemplate, ColumnKinds, UnknownColumn, BadDimension, BadDecimals, TooLarge}
use Rattle.oim_meta.specs.Members.{section, any_member, if_there, no_object_or}
use Rattle.oim_meta.specs.Counts.{has_too_many_columns}
use Rattle.oim_meta.specs.Faults.{any_column, is_no_object, is_no_flag, is_no_text, is_fact, is_mixed_column, has_bad_section, has_bad_sources, is_bad_key, is_bad_group, is_bad_column, is_bad_template}
use Rattle.oim_meta.specs.Levels.{is_column_level, is_template_level}
use Rattle.oim_meta.specs.BadDimensions.{is_bad_dimension, has_bad_dimension}
use Rattle.oim_meta.specs.BadDecimals.{has_bad_decimals_there}
use Rattle.oim_meta.specs.UnknownColumn.{has_unknown_row_id, has_unknown_source, lacks_named_column}
use Rattle.oim_meta.specs.FindingPlaces.{has}
use Rattle.oim_meta.specs.Paths.{Path, template_path, column_path, group_path}
use Rattle.oim_meta.specs.Walk.{in_dimension, in_dimensions, in_level, in_group, in_groups, in_column_itself, in_sources, in_column_level, in_column, lacks_columns}
use Rattle.oim_meta.specs.Walk.{in_columns, in_template_itself, in_template, in_templates}
use Rattle.oim_meta.proofs.FaultSteps.{w, two, here, each, alike, none, nor, off, first, last, or-same, object_or, needed_or}

-- The findings of one fault, as one test.
module _ (known : Known) (e : MetaFault) where
  abbrev dims : Data → Bool
  dims d = (w e BadTemplate && has_bad_section d) || any_member (λ k v. w e BadDimension && is_bad_dimension known.types known.names k v) (section (codes "dimensions") d)

  abbrev pub level : Data → Bool
  level d = dims d || (w e BadDecimals && has_bad_decimals_there d)

  abbrev group : List ℕ → Data → Bool
  group name g = (w e BadTemplate && (bytes_eq name [] || is_no_object g)) || level g

  abbrev groups : Data → Bool
  groups c = (w e BadTemplate && if_there is_no_object (get (codes "propertyGroups") c)) || any_member group (section (codes "propertyGroups") c)

  abbrev itself : List ℕ → Data → Bool
  itself name c =
      (w e BadIdentifier && not (is_identifier name)) || (w e BadTemplate && is_no_object c) || (w e ColumnKinds && is_mixed_column name c)
      || (w e BadTemplate && if_there is_no_flag (get (codes "comment") c))

  abbrev sources : Data → Data → Bool
  sources t c = (w e BadTemplate && has_bad_sources c) || (w e UnknownColumn && has_unknown_source t c)

  abbrev column_level : Data → Bool
  column_level c = dims c || (w e BadDecimals && (is_fact c && has_bad_decimals_there c))

  abbrev column : Data → List ℕ → Data → Bool
  column t name c = itself name c || sources t c || column_level c || groups c

  abbrev template_itself : List ℕ → Data → Bool
  template_itself name t =
      (w e BadIdentifier && not (is_identifier name)) || (w e BadTemplate && lacks_columns t)
      || (w e BadTemplate && if_there is_no_text (get (codes "rowIdColumn") t)) || (w e UnknownColumn && has_unknown_row_id t)

  abbrev columns : List ℕ → Data → Bool
  columns name t = (w e TooLarge && has_too_many_columns known.limits.columns name t) || any_member (column t) (section (codes "columns") t)

  abbrev template : List ℕ → Data → Bool
  template name t = template_itself name t || level t || columns name t

  abbrev pub templates : Data → Bool
  templates d = (w e BadTemplate && if_there is_no_object (get (codes "tableTemplates") d)) || any_member template (section (codes "tableTemplates") d)

  find_dims : (p : Path) (d : Data) → has e (in_dimensions known p d) ≡ dims d
  unfolding in_dimensions
  find_dims p d =
      two e _ _ _ _ (here e BadTemplate _ (has_bad_section d))
      (each e (in_dimension known p) (λ k v. w e BadDimension && is_bad_dimension known.types known.names k v) (λ k v. here e BadDimension _ (is_bad_dimension known.types known.names k v))
      (section (codes "dimensions") d))

  pub find_level : (p : Path) (d : Data) → has e (in_level known p d) ≡ level d
  unfolding in_level
  find_level p d = two e _ _ _ _ (find_dims p d) (here e BadDecimals _ (has_bad_decimals_there d))

  find_group : (t c name : List ℕ) (g : Data) → has e (in_group known t c name g) ≡ group name g
  unfolding in_group
  find_group t c name g = two e _ _ _ _ (here e BadTemplate _ (bytes_eq name [] || is_no_object g)) (find_level (group_path t c name) g)

  find_groups : (t c : List ℕ) (d : Data) → has e (in_groups known t c d) ≡ groups d
  unfolding in_groups
  find_groups t c d =
      two e _ _ _ _ (here e BadTemplate _ (if_there is_no_object (get (codes "propertyGroups") d)))
      (each e (in_group known t c) group (find_group t c) (section (codes "propertyGroups") d))

  find_itself : (t name : List ℕ) (c : Data) → has e (in_column_itself t name c) ≡ itself name c
  unfolding in_column_itself
  find_itself t name c =
      two e _ _ _ _
      (two e _ _ _ _ (two e _ _ _ _ (here e BadIdentifier _ (not (is_identifier name))) (here e BadTemplate _ (is_no_object c)))
      (here e ColumnKinds _ (is_mixed_column name c))) (here e BadTemplate _ (if_there is_no_flag (get (codes "comment") c)))

  find_sources : (n : List ℕ) (t : Data) (name : List ℕ) (c : Data) → has e (in_sources n t name c) ≡ sources t c
  unfolding in_sources
  find_sources n t name c = two e _ _ _ _ (here e BadTemplate _ (has_bad_sources c)) (here e UnknownColumn _ (has_unknown_source t c))

  find_column_level : (p : Path) (c : Data) → has e (in_column_level known p c) ≡ column_level c
  unfolding in_column_level
  find_column_level p c = two e _ _ _ _ (find_dims p c) (here e BadDecimals _ (is_fact c && has_bad_decimals_there c))

  find_column : (n : List ℕ) (t : Data) (name : List ℕ) (c : Data) → has e (in_column known n t name c) ≡ column t name c
  unfolding in_column
  find_column n t name c =
      two e _ _ _ _ (two e _ _ _ _ (two e _ _ _ _ (find_itself n name c) (find_sources n t name c)) (find_column_level (column_path n name) c)) (find_groups n name c)

  find_template_itself : (name : List ℕ) (t : Data) → has e (in_template_itself name t) ≡ template_itself name t
  unfolding in_template_itself
  find_template_itself name t =
      two e _ _ _ _
      (two e _ _ _ _ (two e _ _ _ _ (here e BadIdentifier _ (not (is_identifier name))) (here e BadTemplate _ (lacks_columns t)))
      (here e BadTemplate _ (if_there is_no_text (get (codes "rowIdColumn") t)))) (here e UnknownColumn _ (has_unknown_row_id t))

  find_columns : (name : List ℕ) (t : Data) → has e (in_columns known name t) ≡ columns name t
  unfolding in_columns
  find_columns name t =
      two e _ _ _ _ (here e TooLarge _ (has_too_many_columns known.limits.columns name t))
      (each e (in_column known name t) (column t) (find_column name t) (section (codes "columns") t))

  find_template : (name : List ℕ) (t : Data) → has e (in_template known name t) ≡ template name t
  unfolding in_template
  find_template name t = two e _ _ _ _ (two e _ _ _ _ (find_template_itself name t) (find_level (template_path name) t)) (find_columns name t)

  pub find_templates : (d : Data) → has e (in_templates known d) ≡ templates d
  unfolding in_templates
  find_templates d =
      two e _ _ _ _ (here e BadTemplate _ (if_there is_no_object (get (codes "tableTemplates") d)))
      (each e (in_template known) template find_template (section (codes "tableTemplates") d))

  -- A fault that levels do not have.
  no_dims : w e BadTemplate ≡ false → w e BadDimension ≡ false → (d : Data) → dims d ≡ false
  no_dims a b d = nor _ _ (off _ _ a) (none _ (λ k v. off _ _ b) (section (codes "dimensions") d))

  pub no_level : w e BadTemplate ≡ false → w e BadDimension ≡ false → w e BadDecimals ≡ false → (d : Data) → level d ≡ false
  no_level a b c d = nor _ _ (no_dims a b d) (off _ _ c)

  no_groups : w e BadTemplate ≡ false → w e BadDimension ≡ false → w e BadDecimals ≡ false → (c : Data) → groups c ≡ false
  no_groups a b c d = nor _ _ (off _ _ a) (none group (λ name g. nor _ _ (off _ _ a) (no_level a b c g)) (section (codes "propertyGroups") d))

  no_column_level : w e BadTemplate ≡ false → w e BadDimension ≡ false → w e BadDecimals ≡ false → (d : Data) → column_level d ≡ false
  no_column_level a b c d = nor _ _ (no_dims a b d) (off _ _ c)

  no_template : w e BadIdentifier ≡ false → w e BadTemplate ≡ false → w e ColumnKinds ≡ false → w e UnknownColumn ≡ false → w e BadDimension ≡ false
      → w e BadDecimals ≡ false → w e TooLarge ≡ false → (name : List ℕ) (t : Data) → template name t ≡ false
  no_template i s k u m d l name t =
      nor _ _
      (nor _ _ (nor _ _ (nor _ _ (nor _ _ (off _ _ i) (off _ _ s)) (off _ _ s)) (off _ _ u)) (no_level s m d t))
      (nor _ _ (off _ _ l)
      (none (column t)
      (λ n c. nor _ _
      (nor _ _
      (nor _ _ (nor _ _ (nor _ _ (nor _ _ (off _ _ i) (off _ _ s)) (off _ _ k)) (off _ _ s)) (nor _ _ (off _ _ s) (off _ _ u)))
      (no_column_level s m d c)) (no_groups s m d c)) (section (codes "columns") t)))

  pub no_templates : w e BadIdentifier ≡ false → w e BadTemplate ≡ false → w e ColumnKinds ≡ false → w e UnknownColumn ≡ false → w e BadDimension ≡ false
      → w e BadDecimals ≡ false → w e TooLarge ≡ false → (d : Data) → templates d ≡ false
  no_templates i s k u m d l r = nor _ _ (off _ _ s) (none template (no_template i s k u m d l) (section (codes "tableTemplates") r))

-- Each fault of a template.
module _ (known : Known) where
  identifier : (name : List ℕ) (t : Data) → template known BadIdentifier name t ≡ (is_bad_key name t || any_member is_bad_key (section (codes "columns") t))
  identifier name t =
      let e = BadIdentifier in
      or-same _ _ _ _
      (first _ _ (no_level known e refl refl refl t) ∙ first _ _ refl ∙ first _ _ refl ∙ first _ _ refl)
      (alike (column known e t) is_bad_key
      (λ n c. first _ _ (no_groups known e refl refl refl c) ∙ first _ _ (no_column_level known e refl refl refl c) ∙ first _ _ refl
      ∙ first _ _ refl ∙ first _ _ refl ∙ first _ _ refl) (section (codes "columns") t))

  kinds : (name : List ℕ) (t : Data) → template known ColumnKinds name t ≡ any_member is_mixed_column (section (codes "columns") t)
  kinds name t =
      let e = ColumnKinds in
      last _ _ (no_level known e refl refl refl t)
      ∙ alike (column known e t) is_mixed_column
      (λ n c. first _ _ (no_groups known e refl refl refl c) ∙ first _ _ (no_column_level known e refl refl refl c) ∙ first _ _ refl ∙ first _ _ refl)
      (section (codes "columns") t)

  unknown_column : (name : List ℕ) (t : Data) → template known UnknownColumn name t ≡ lacks_named_column t
  unknown_column name t =
      let e = UnknownColumn in
      or-same _ _ _ _
      (first _ _ (no_level known e refl refl refl t))
      (alike (column known e t) (λ _ c. has_unknown_source t c)
      (λ n c. first _ _ (no_groups known e refl refl refl c) ∙ first _ _ (no_column_level known e refl refl refl c)) (section (codes "columns") t))

  -- A level has the faults of its dimensions, or of its decimals.
  pub dimension_level : (d : Data) → level known BadDimension d ≡ has_bad_dimension known.types known.names d
  dimension_level d = first _ _ refl

  pub decimals_level : (d : Data) → level known BadDecimals d ≡ has_bad_decimals_there d
  decimals_level d = last _ _ (no_dims known BadDecimals refl refl d)

  dimensions : (name : List ℕ) (t : Data) → template known BadDimension name t ≡ is_template_level (has_bad_dimension known.types known.names) (has_bad_dimension known.types known.names) name t
  dimensions name t =
      let e = BadDimension in
      or-same _ _ _ _ (dimension_level t)
      (alike (column known e t) (is_column_level (has_bad_dimension known.types known.names) (has_bad_dimension known.types known.names))
      (λ n c. or-same _ _ _ _ (first _ _ refl)
      (alike (group known e) (λ _ g. has_bad_dimension known.types known.names g) (λ m g. dimension_level g) (section (codes "propertyGroups") c)))
      (section (codes "columns") t))

  decimals : (name : List ℕ) (t : Data) → template known BadDecimals name t ≡ is_template_level has_bad_decimals_there (λ c. is_fact c && has_bad_decimals_there c) name t
  decimals name t =
      let e = BadDecimals in
      or-same _ _ _ _ (decimals_level t)
      (alike (column known e t) (is_column_level has_bad_decimals_there (λ c. is_fact c && has_bad_decimals_there c))
      (λ n c. or-same _ _ _ _ (last _ _ (no_dims known e refl refl c))
      (alike (group known e) (λ _ g. has_bad_decimals_there g) (λ m g. decimals_level g) (section (codes "propertyGroups") c)))
      (section (codes "columns") t))

  too_many : (name : List ℕ) (t : Data) → template known TooLarge name t ≡ has_too_many_columns known.limits.columns name t
  too_many name t =
      let e = TooLarge in
      last _ _ (no_level known e refl refl refl t)
      ∙ first _ _
      (none (column known e t)
      (λ n c. first _ _ (no_groups known e refl refl refl c) ∙ first _ _ (no_column_level known e refl refl refl c)) (section (codes "columns") t))

-- The parts of a test in another order.
or-left : (a b c : Bool) → (a || (b || c)) ≡ (a || b || c)
or-left true b c = refl
or-left false b c = refl

pub or-swap : (a b : Bool) → (a || b) ≡ (b || a)
or-swap true true = refl
or-swap true false = refl
or-swap false true = refl
or-swap false false = refl

-- The object, comment, sources, dimensions and groups of a column.
column_order : (o c s d g : Bool) → (o || c || s || d || g) ≡ (o || d || g || c || s)
column_order true c s d g = refl
column_order false c s d g = sym (or-left (c || s) d g) ∙ or-swap (c || s) (d || g) ∙ or-left (d || g) c s

-- The columns, row identifier column, dimensions and column faults of a template.
template_order : (l r d c : Bool) → (l || r || d || c) ≡ (l || c || d || r)
template_order true r d c = refl
template_order false r d c = or-swap (r || d) c ∙ ap (λ b. c || b) (or-swap r d) ∙ or-left c d r

-- Two tests of one more member and of the others.
shuffle : (a b c d : Bool) → (a || b || (c || d)) ≡ (a || c || (b || d))
shuffle true b c d = refl
shuffle false true true d = refl
shuffle false true false d = refl
shuffle false false c d = refl

-- The shape of a template.
module _ (known : Known) where
  shape_dims : (d : Data) → dims known BadTemplate d ≡ has_bad_section d
  shape_dims d = first _ _ (none _ (λ k v. refl) (section (codes "dimensions") d))

  pub shape_level : (d : Data) → level known BadTemplate d ≡ has_bad_section d
  shape_level d = first _ _ refl ∙ shape_dims d

  shape_groups : (c : Data) → groups known BadTemplate c ≡ if_there (no_object_or (any_member is_bad_group)) (get (codes "propertyGroups") c)
  shape_groups c =
      ap (λ b. if_there is_no_object (get (codes "propertyGroups") c) || b)
      (alike (group known BadTemplate) is_bad_group (λ name g. or-same _ _ _ _ refl (shape_level g)) (section (codes "propertyGroups") c))
      ∙ object_or is_bad_group (get (codes "propertyGroups") c)

  shape_column : (t : Data) (name : List ℕ) (c : Data) → column known BadTemplate t name c ≡ is_bad_column name c
  shape_column t name c =
      or-same _ _ _ _
      (or-same _ _ _ _ (or-same (itself known BadTemplate name c) (sources known BadTemplate t c)
      (is_no_object c || if_there is_no_flag (get (codes "comment") c)) (has_bad_sources c)
      (or-same (is_no_object c || false) (if_there is_no_flag (get (codes "comment") c)) (is_no_object c) (if_there is_no_flag (get (codes "comment") c)) (first _ _ refl) refl)
      (first _ _ refl))
      (first _ _ refl ∙ shape_dims c)) (shape_groups c)
      ∙ column_order (is_no_object c) (if_there is_no_flag (get (codes "comment") c)) (has_bad_sources c) (has_bad_section c)
      (if_there (no_object_or (any_member is_bad_group)) (get (codes "propertyGroups") c))

  shape : (name : List ℕ) (t : Data) → template known BadTemplate name t ≡ is_bad_template name t
  shape name t =
      or-same _ _ _ _ (or-same _ _ _ _ (first _ _ refl) (shape_level t))
      (alike (column known BadTemplate t) is_bad_column (shape_column t) (section (codes "columns") t))
      ∙ template_order (lacks_columns t) (if_there is_no_text (get (codes "rowIdColumn") t)) (has_bad_section t) (any_member is_bad_column (section (codes "columns") t))
      ∙ ap (λ b. b || has_bad_section t || if_there is_no_text (get (codes "rowIdColumn") t)) (needed_or is_bad_column (get (codes "columns") t))

-- Each fault of the templates.
module _ (known : Known) where
  -- Two tests of members are one.
  both : (p q : List ℕ → Data → Bool) → (ms : Members) → any_member (λ k d. p k d || q k d) ms ≡ (any_member p ms || any_member q ms)
  both p q no_members = refl
  both p q (member k d ms) = rw (both p q ms) (shuffle (p k d) (q k d) (any_member p ms) (any_member q ms))

  pub identifiers : (d : Data) → templates known BadIdentifier d ≡ (any_member is_bad_key (section (codes "tableTemplates") d) || any_column is_bad_key d)
  identifiers d =
      alike (template known BadIdentifier) (λ name t. is_bad_key name t || any_member is_bad_key (section (codes "columns") t)) (identifier known) (section (codes "tableTemplates") d)
      ∙ both is_bad_key (λ _ t. any_member is_bad_key (section (codes "columns") t)) (section (codes "tableTemplates") d)

  pub shapes : (d : Data) → templates known BadTemplate d ≡ if_there (no_object_or (any_member is_bad_template)) (get (codes "tableTemplates") d)
  shapes d =
      ap (λ b. if_there is_no_object (get (codes "tableTemplates") d) || b)
      (alike (template known BadTemplate) is_bad_template (shape known) (section (codes "tableTemplates") d))
      ∙ object_or is_bad_template (get (codes "tableTemplates") d)

  pub mixed_kinds : (d : Data) → templates known ColumnKinds d ≡ any_column is_mixed_column d
  mixed_kinds d =
      alike (template known ColumnKinds) (λ _ t. any_member is_mixed_column (section (codes "columns") t)) (kinds known) (section (codes "tableTemplates") d)

  pub unknown_columns : (d : Data) → templates known UnknownColumn d ≡ any_member (λ _ t. lacks_named_column t) (section (codes "tableTemplates") d)
  unknown_columns d =
      alike (template known UnknownColumn) (λ _ t. lacks_named_column t) (unknown_column known) (section (codes "tableTemplates") d)

  pub template_dimensions : (d : Data)
      → templates known BadDimension d ≡ any_member (is_template_level (has_bad_dimension known.types known.names) (has_bad_dimension known.types known.names)) (section (codes "tableTemplates") d)
  template_dimensions d =
      alike (template known BadDimension) (is_template_level (has_bad_dimension known.types known.names) (has_bad_dimension known.types known.names)) (dimensions known)
      (section (codes "tableTemplates") d)

  pub template_decimals : (d : Data)
      → templates known BadDecimals d
      ≡ any_member (is_template_level has_bad_decimals_there (λ c. is_fact c && has_bad_decimals_there c)) (section (codes "tableTemplates") d)
  template_decimals d =
      alike (template known BadDecimals) (is_template_level has_bad_decimals_there (λ c. is_fact c && has_bad_decimals_there c)) (decimals known)
      (section (codes "tableTemplates") d)

  pub too_many_columns : (d : Data) → templates known TooLarge d ≡ any_member (has_too_many_columns known.limits.columns) (section (codes "tableTemplates") d)
  too_many_columns d =
      alike (template known TooLarge) (has_too_many_columns known.limits.columns) (too_many known) (section (codes "tableTemplates") d)

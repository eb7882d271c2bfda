-- A walk finds a fault in a metadata exactly if the test for the fault passes.
use Rattle.std.proofs.Common.{◌≡◌, ◌∙◌, ◌≤◌, ◌<◌, [], Bool, true, false, ◌||◌, refl, sym, ap, arith, codes}
use Rattle.std.specs.Prelude.{nat_lt}
use Rattle.serde_json.specs.Data.{Data}
use Rattle.oim_report.specs.declared.limits.Limits.{Limits}
use Rattle.oim_report.specs.Parameters.{ParametersValue}
use Rattle.oim_report.specs.Types.{TypesValue}
use Rattle.oim_entries.specs.declared.fault.MetaFault.{MetaFault}
use Rattle.oim_entries.specs.declared.fault.MetaFault.TheVariants.{Syntax, NotReport, BadNamespaces, BadTaxonomy, Unsupported, BadIdentifier, BadTemplate, ColumnKinds, UnknownTemplate}
use Rattle.oim_entries.specs.declared.fault.MetaFault.TheVariants.{UnknownColumn, BadDimension, BadDecimals, BadParameter, BadTypes, TooLarge, Memory, Read}
use Rattle.oim_meta.specs.Known.{Known, known_of}
use Rattle.oim_meta.specs.Members.{section, any_member}
use Rattle.oim_entries.specs.FaultNames.{fault_number}
use Rattle.oim_meta.specs.Faults.{any_column, has_bad_identifier, has_bad_shape, has_mixed_column, is_bad_key}
use Rattle.oim_meta.specs.BadDimensions.{has_bad_dimensions}
use Rattle.oim_meta.specs.BadDecimals.{has_bad_decimals}
use Rattle.oim_meta.specs.BadParameters.{has_bad_parameters, is_given, has_bad_parameter_url, has_bad_parameter}
use Rattle.oim_meta.specs.Counts.{count_of, has_too_many, has_too_many_columns}
use Rattle.oim_meta.specs.UnknownColumn.{has_unknown_column}
use Rattle.oim_meta.specs.FirstFault.{has_fault}
use Rattle.oim_meta.specs.FindingPlaces.{has}
use Rattle.oim_meta.specs.WalkReport.{in_document, in_parts, in_metadata}
use Rattle.oim_meta.proofs.FaultSteps.{w, two, nor, first, last, or-same}
use Rattle.oim_meta.proofs.TemplateFaults.{level, templates, find_level, find_templates, no_level, no_templates, dimension_level, decimals_level, shape_level, or-swap}
use Rattle.oim_meta.proofs.TemplateFaults.{identifiers, shapes, mixed_kinds, unknown_columns, template_dimensions, template_decimals, too_many_columns}
use Rattle.oim_meta.proofs.TableFaults.{own, tables, find_own, find_tables, no_own, no_tables, table_identifiers, table_shapes, unknown_templates, table_parameters, own_parameters, too_many_tables}
use Rattle.oim_meta.proofs.DocumentFaults.{document, find_document, no_document, not_report, bad_namespaces, bad_taxonomy, unsupported}

wrong : (b : Bool) → b ≡ true → b ≡ false → ⊥
wrong b h k = let same : true ≡ false = sym h ∙ k in absurd cc

-- The last two of three, exchanged.
swap-last : (a b c : Bool) → (a || b || c) ≡ (a || c || b)
swap-last true b c = refl
swap-last false b c = or-swap b c

-- Bad parameters of tables are before those that are given twice.
parameter_order : (t b g u : Bool) → (t || (b || g || u)) ≡ (b || t || g || u)
parameter_order true true g u = refl
parameter_order true false g u = refl
parameter_order false b g u = ap (λ x. x || g || u) (sym (first b false refl))

module _ (known : Known) (e : MetaFault) where
  -- The findings of a fault in the parts, as one test.
  abbrev parts : Data → Bool
  parts d = level known e d || templates known e d || tables e known.limits d || own e known.given d

  find_parts : (d : Data) → has e (in_parts known d) ≡ parts d
  unfolding in_parts
  find_parts d =
      two e _ _ _ _ (two e _ _ _ _ (two e _ _ _ _ (find_level known e [] d) (find_templates known e d)) (find_tables e known.limits d))
      (find_own e known.given d)

  no_parts : w e BadIdentifier ≡ false → w e BadTemplate ≡ false → w e ColumnKinds ≡ false → w e UnknownTemplate ≡ false → w e UnknownColumn ≡ false
      → w e BadDimension ≡ false → w e BadDecimals ≡ false → w e BadParameter ≡ false → w e TooLarge ≡ false → (d : Data) → parts d ≡ false
  no_parts i s k t u m c p l d =
      nor _ _ (nor _ _ (nor _ _ (no_level known e s m c d) (no_templates known e i s k u m c l d)) (no_tables e i s t p l known.limits d))
      (no_own e p known.given d)

module _ (limits : Limits) (given : ParametersValue) (types : TypesValue) (d : Data) where
  abbrev these : MetaFault → Bool
  these e = parts (known_of limits given types d) e d

  identifier : these BadIdentifier ≡ has_bad_identifier d
  unfolding has_bad_identifier
  identifier =
      let e = BadIdentifier in
      let known = known_of limits given types d in
      first _ _ (no_own e refl given d)
      ∙ or-same _ _ _ _ (last _ _ (no_level known e refl refl refl d) ∙ identifiers known d) (table_identifiers limits d)
      ∙ swap-last (any_member is_bad_key (section (codes "tableTemplates") d)) (any_column is_bad_key d) (any_member is_bad_key (section (codes "tables") d))

  shape : these BadTemplate ≡ has_bad_shape d
  unfolding has_bad_shape
  shape =
      let e = BadTemplate in
      let known = known_of limits given types d in
      first _ _ (no_own e refl given d)
      ∙ or-same _ _ _ _ (or-same _ _ _ _ (shape_level known d) (shapes known d)) (table_shapes limits d)

  kinds : these ColumnKinds ≡ has_mixed_column d
  unfolding has_mixed_column
  kinds =
      let e = ColumnKinds in
      let known = known_of limits given types d in
      first _ _ (no_own e refl given d) ∙ first _ _ (no_tables e refl refl refl refl refl limits d) ∙ last _ _ (no_level known e refl refl refl d)
      ∙ mixed_kinds known d

  template_known : these UnknownTemplate ≡ has_fault limits given types d UnknownTemplate
  template_known =
      let e = UnknownTemplate in
      let known = known_of limits given types d in
      first _ _ (no_own e refl given d)
      ∙ last _ _ (nor _ _ (no_level known e refl refl refl d) (no_templates known e refl refl refl refl refl refl refl d))
      ∙ unknown_templates limits d

  column_known : these UnknownColumn ≡ has_unknown_column d
  unfolding has_unknown_column
  column_known =
      let e = UnknownColumn in
      let known = known_of limits given types d in
      first _ _ (no_own e refl given d) ∙ first _ _ (no_tables e refl refl refl refl refl limits d) ∙ last _ _ (no_level known e refl refl refl d)
      ∙ unknown_columns known d

  dimensions : these BadDimension ≡ has_bad_dimensions types d
  unfolding has_bad_dimensions
  dimensions =
      let e = BadDimension in
      let known = known_of limits given types d in
      first _ _ (no_own e refl given d) ∙ first _ _ (no_tables e refl refl refl refl refl limits d)
      ∙ or-same _ _ _ _ (dimension_level known d) (template_dimensions known d)

  decimals : these BadDecimals ≡ has_bad_decimals d
  unfolding has_bad_decimals
  decimals =
      let e = BadDecimals in
      let known = known_of limits given types d in
      first _ _ (no_own e refl given d) ∙ first _ _ (no_tables e refl refl refl refl refl limits d)
      ∙ or-same _ _ _ _ (decimals_level known d) (template_decimals known d)

  parameters : these BadParameter ≡ has_bad_parameter given d
  unfolding has_bad_parameter
  parameters =
      let e = BadParameter in
      let known = known_of limits given types d in
      or-same _ _ _ _
      (last _ _ (nor _ _ (no_level known e refl refl refl d) (no_templates known e refl refl refl refl refl refl refl d))
      ∙ table_parameters limits d) (own_parameters given d)
      ∙ parameter_order (any_member (λ _ t. has_bad_parameters t) (section (codes "tables") d)) (has_bad_parameters d)
      (any_member (is_given given) (section (codes "parameters") d)) (has_bad_parameter_url d)

  counts : these TooLarge ≡ has_too_many limits d
  unfolding has_too_many
  counts =
      let e = TooLarge in
      let known = known_of limits given types d in
      first _ _ (no_own e refl given d)
      ∙ or-same _ _ _ _ (last _ _ (no_level known e refl refl refl d) ∙ too_many_columns known d) (too_many_tables limits d)
      ∙ or-swap (any_member (has_too_many_columns limits.columns) (section (codes "tableTemplates") d)) (nat_lt limits.tables (count_of (section (codes "tables") d)))

  -- A fault that no part has.
  never : (e : MetaFault) → w e BadIdentifier ≡ false → w e BadTemplate ≡ false → w e ColumnKinds ≡ false → w e UnknownTemplate ≡ false → w e UnknownColumn ≡ false
      → w e BadDimension ≡ false → w e BadDecimals ≡ false → w e BadParameter ≡ false → w e TooLarge ≡ false → these e ≡ false
  never e i s k t u m c p l = no_parts (known_of limits given types d) e i s k t u m c p l d

  by_fault : (e : MetaFault) → (document e d || these e) ≡ has_fault limits given types d e
  by_fault Syntax = nor _ _ (no_document Syntax refl refl refl refl d) (never Syntax refl refl refl refl refl refl refl refl refl)
  by_fault NotReport = first _ _ (never NotReport refl refl refl refl refl refl refl refl refl) ∙ not_report d
  by_fault BadNamespaces = first _ _ (never BadNamespaces refl refl refl refl refl refl refl refl refl) ∙ bad_namespaces d
  by_fault BadTaxonomy = first _ _ (never BadTaxonomy refl refl refl refl refl refl refl refl refl) ∙ bad_taxonomy d
  by_fault Unsupported = first _ _ (never Unsupported refl refl refl refl refl refl refl refl refl) ∙ unsupported d
  by_fault BadIdentifier = last _ _ (no_document BadIdentifier refl refl refl refl d) ∙ identifier
  by_fault BadTemplate = last _ _ (no_document BadTemplate refl refl refl refl d) ∙ shape
  by_fault ColumnKinds = last _ _ (no_document ColumnKinds refl refl refl refl d) ∙ kinds
  by_fault UnknownTemplate = last _ _ (no_document UnknownTemplate refl refl refl refl d) ∙ template_known
  by_fault UnknownColumn = last _ _ (no_document UnknownColumn refl refl refl refl d) ∙ column_known
  by_fault BadDimension = last _ _ (no_document BadDimension refl refl refl refl d) ∙ dimensions
  by_fault BadDecimals = last _ _ (no_document BadDecimals refl refl refl refl d) ∙ decimals
  by_fault BadParameter = last _ _ (no_document BadParameter refl refl refl refl d) ∙ parameters
  by_fault BadTypes = nor _ _ (no_document BadTypes refl refl refl refl d) (never BadTypes refl refl refl refl refl refl refl refl refl)
  by_fault TooLarge = last _ _ (no_document TooLarge refl refl refl refl d) ∙ counts
  by_fault Memory = nor _ _ (no_document Memory refl refl refl refl d) (never Memory refl refl refl refl refl refl refl refl refl)
  by_fault Read = nor _ _ (no_document Read refl refl refl refl d) (never Read refl refl refl refl refl refl refl refl refl)

  -- A walk finds a fault exactly if the test for it passes.
  pub all_found : (e : MetaFault) → has e (in_metadata limits given types d) ≡ has_fault limits given types d e
  unfolding in_metadata
  all_found e = two e _ _ _ _ (find_document e d) (find_parts (known_of limits given types d) e d) ∙ by_fault e

  -- The faults of the document have numbers up to 5, and those of the parts have greater ones.
  low : (e : MetaFault) → document e d ≡ true → fault_number e ≤ 5
  low Syntax h = omega arith
  low NotReport h = omega arith
  low BadNamespaces h = omega arith
  low BadTaxonomy h = omega arith
  low Unsupported h = omega arith
  low BadIdentifier h = absurd (wrong _ h (no_document BadIdentifier refl refl refl refl d))
  low BadTemplate h = absurd (wrong _ h (no_document BadTemplate refl refl refl refl d))
  low ColumnKinds h = absurd (wrong _ h (no_document ColumnKinds refl refl refl refl d))
  low UnknownTemplate h = absurd (wrong _ h (no_document UnknownTemplate refl refl refl refl d))
  low UnknownColumn h = absurd (wrong _ h (no_document UnknownColumn refl refl refl refl d))
  low BadDimension h = absurd (wrong _ h (no_document BadDimension refl refl refl refl d))
  low BadDecimals h = absurd (wrong _ h (no_document BadDecimals refl refl refl refl d))
  low BadParameter h = absurd (wrong _ h (no_document BadParameter refl refl refl refl d))
  low BadTypes h = absurd (wrong _ h (no_document BadTypes refl refl refl refl d))
  low TooLarge h = absurd (wrong _ h (no_document TooLarge refl refl refl refl d))
  low Memory h = absurd (wrong _ h (no_document Memory refl refl refl refl d))
  low Read h = absurd (wrong _ h (no_document Read refl refl refl refl d))

  high : (e : MetaFault) → fault_number e < 5 → these e ≡ false
  high Syntax h = never Syntax refl refl refl refl refl refl refl refl refl
  high NotReport h = never NotReport refl refl refl refl refl refl refl refl refl
  high BadNamespaces h = never BadNamespaces refl refl refl refl refl refl refl refl refl
  high BadTaxonomy h = never BadTaxonomy refl refl refl refl refl refl refl refl refl
  high Unsupported h = absurd (omega (arith, h))
  high BadIdentifier h = absurd (omega (arith, h))
  high BadTemplate h = absurd (omega (arith, h))
  high ColumnKinds h = absurd (omega (arith, h))
  high UnknownTemplate h = absurd (omega (arith, h))
  high UnknownColumn h = absurd (omega (arith, h))
  high BadDimension h = absurd (omega (arith, h))
  high BadDecimals h = absurd (omega (arith, h))
  high BadParameter h = absurd (omega (arith, h))
  high BadTypes h = absurd (omega (arith, h))
  high TooLarge h = absurd (omega (arith, h))
  high Memory h = absurd (omega (arith, h))
  high Read h = absurd (omega (arith, h))

  -- The parts have no fault with a lower number than one of the document.
  pub parts_are_later : (f e : MetaFault) → has f (in_document d) ≡ true → fault_number e < fault_number f → has e (in_parts (known_of limits given types d) d) ≡ false
  parts_are_later f e found less =
      let up = low f (sym (find_document f d) ∙ found) in
      let far : fault_number e < 5 = omega (arith, up, less) in
      find_parts (known_of limits given types d) e d ∙ high e far

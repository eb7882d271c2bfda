-- A walk finds each fault of tables and parameters exactly if the test for the fault passes.
use Rattle.std.proofs.Common.{◌≡◌, ◌∙◌, ℕ, List, [], Option, Bool, false, not, ◌||◌, ◌&&◌, refl, codes}
use Rattle.std.specs.Prelude.{nat_lt}
use Rattle.serde_json.specs.Data.{Data}
use Rattle.serde_json.specs.Find.{get}
use Rattle.oim_names.specs.Names.{is_identifier}
use Rattle.oim_report.specs.declared.limits.Limits.{Limits}
use Rattle.oim_report.specs.Parameters.{ParametersValue}
use Rattle.oim_entries.specs.declared.fault.MetaFault.{MetaFault}
use Rattle.oim_entries.specs.declared.fault.MetaFault.TheVariants.{BadIdentifier, BadTemplate, UnknownTemplate, BadParameter, TooLarge}
use Rattle.oim_meta.specs.Members.{section, any_member, if_there, no_object_or}
use Rattle.oim_meta.specs.BadParameters.{is_bad_parameter, has_bad_parameters, is_given, has_bad_parameter_url}
use Rattle.oim_meta.specs.Counts.{count_of}
use Rattle.oim_meta.specs.Faults.{has_unknown_template, is_bad_key, is_bad_table, is_no_object, is_no_flag, is_no_text, lacks_template_of, lacks_url}
use Rattle.oim_meta.specs.FindingPlaces.{has}
use Rattle.oim_meta.specs.Paths.{Path, table_path}
use Rattle.oim_meta.specs.WalkTables.{in_parameter, in_parameters, in_given, in_own_parameters, in_table_itself, in_table, in_tables}
use Rattle.oim_meta.proofs.FaultSteps.{w, two, here, each, alike, none, nor, off, first, or-same, object_or}

-- The findings of one fault, as one test.
module _ (e : MetaFault) where
  abbrev parameters : Data → Bool
  parameters d =
      (w e BadParameter && if_there is_no_object (get (codes "parameters") d)) || any_member (λ k v. w e BadParameter && is_bad_parameter k v) (section (codes "parameters") d)

  abbrev pub own : ParametersValue → Data → Bool
  own given d =
      parameters d || any_member (λ k v. w e BadParameter && is_given given k v) (section (codes "parameters") d) || (w e BadParameter && has_bad_parameter_url d)

  abbrev itself : List ℕ → Data → Bool
  itself name t =
      (w e BadIdentifier && not (is_identifier name)) || (w e BadTemplate && lacks_url t) || (w e BadTemplate && if_there is_no_text (get (codes "template") t))
      || (w e BadTemplate && if_there is_no_flag (get (codes "optional") t))

  abbrev table : Option Data → List ℕ → Data → Bool
  table templates name t = itself name t || (w e UnknownTemplate && lacks_template_of templates name t) || parameters t

  abbrev pub tables : Limits → Data → Bool
  tables limits d =
      (w e BadTemplate && if_there is_no_object (get (codes "tables") d)) || (w e TooLarge && nat_lt limits.tables (count_of (section (codes "tables") d)))
      || any_member (table (get (codes "tableTemplates") d)) (section (codes "tables") d)

  find_parameters : (p : Path) (d : Data) → has e (in_parameters p d) ≡ parameters d
  unfolding in_parameters
  find_parameters p d =
      two e _ _ _ _ (here e BadParameter _ (if_there is_no_object (get (codes "parameters") d)))
      (each e (in_parameter p) (λ k v. w e BadParameter && is_bad_parameter k v) (λ k v. here e BadParameter _ (is_bad_parameter k v)) (section (codes "parameters") d))

  pub find_own : (given : ParametersValue) (d : Data) → has e (in_own_parameters given d) ≡ own given d
  unfolding in_own_parameters
  find_own given d =
      two e _ _ _ _
      (two e _ _ _ _ (find_parameters [] d)
      (each e (in_given given) (λ k v. w e BadParameter && is_given given k v) (λ k v. here e BadParameter _ (is_given given k v)) (section (codes "parameters") d)))
      (here e BadParameter _ (has_bad_parameter_url d))

  find_itself : (name : List ℕ) (t : Data) → has e (in_table_itself name t) ≡ itself name t
  unfolding in_table_itself
  find_itself name t =
      two e _ _ _ _
      (two e _ _ _ _ (two e _ _ _ _ (here e BadIdentifier _ (not (is_identifier name))) (here e BadTemplate _ (lacks_url t)))
      (here e BadTemplate _ (if_there is_no_text (get (codes "template") t)))) (here e BadTemplate _ (if_there is_no_flag (get (codes "optional") t)))

  find_table : (templates : Option Data) (name : List ℕ) (t : Data) → has e (in_table templates name t) ≡ table templates name t
  unfolding in_table
  find_table templates name t =
      two e _ _ _ _ (two e _ _ _ _ (find_itself name t) (here e UnknownTemplate _ (lacks_template_of templates name t))) (find_parameters (table_path name) t)

  pub find_tables : (limits : Limits) (d : Data) → has e (in_tables limits d) ≡ tables limits d
  unfolding in_tables
  find_tables limits d =
      two e _ _ _ _
      (two e _ _ _ _ (here e BadTemplate _ (if_there is_no_object (get (codes "tables") d)))
      (here e TooLarge _ (nat_lt limits.tables (count_of (section (codes "tables") d)))))
      (each e (in_table (get (codes "tableTemplates") d)) (table (get (codes "tableTemplates") d)) (find_table (get (codes "tableTemplates") d)) (section (codes "tables") d))

  -- A fault that parameters, or tables, do not have.
  no_parameters : w e BadParameter ≡ false → (d : Data) → parameters d ≡ false
  no_parameters p d = nor _ _ (off _ _ p) (none _ (λ k v. off _ _ p) (section (codes "parameters") d))

  pub no_own : w e BadParameter ≡ false → (given : ParametersValue) (d : Data) → own given d ≡ false
  no_own p given d = nor _ _ (nor _ _ (no_parameters p d) (none _ (λ k v. off _ _ p) (section (codes "parameters") d))) (off _ _ p)

  pub no_tables : w e BadIdentifier ≡ false → w e BadTemplate ≡ false → w e UnknownTemplate ≡ false → w e BadParameter ≡ false → w e TooLarge ≡ false
      → (limits : Limits) (d : Data) → tables limits d ≡ false
  no_tables i s u p l limits d =
      nor _ _ (nor _ _ (off _ _ s) (off _ _ l))
      (none (table (get (codes "tableTemplates") d))
      (λ n t. nor _ _ (nor _ _ (nor _ _ (nor _ _ (nor _ _ (off _ _ i) (off _ _ s)) (off _ _ s)) (off _ _ s)) (off _ _ u)) (no_parameters p t)) (section (codes "tables") d))

-- Each fault of tables and parameters.
pub table_identifiers : (limits : Limits) (d : Data) → tables BadIdentifier limits d ≡ any_member is_bad_key (section (codes "tables") d)
table_identifiers limits d =
    let e = BadIdentifier in
    alike (table e (get (codes "tableTemplates") d)) is_bad_key
    (λ n t. first _ _ (no_parameters e refl t) ∙ first _ _ refl ∙ first _ _ refl ∙ first _ _ refl ∙ first _ _ refl) (section (codes "tables") d)

pub table_shapes : (limits : Limits) (d : Data) → tables BadTemplate limits d ≡ if_there (no_object_or (any_member is_bad_table)) (get (codes "tables") d)
table_shapes limits d =
    let e = BadTemplate in
    or-same _ _ _ _ (first (if_there is_no_object (get (codes "tables") d)) false refl)
    (alike (table e (get (codes "tableTemplates") d)) is_bad_table (λ n t. first _ _ (no_parameters e refl t) ∙ first _ _ refl) (section (codes "tables") d))
    ∙ object_or is_bad_table (get (codes "tables") d)

pub unknown_templates : (limits : Limits) (d : Data) → tables UnknownTemplate limits d ≡ has_unknown_template d
unfolding has_unknown_template
unknown_templates limits d =
    let e = UnknownTemplate in
    alike (table e (get (codes "tableTemplates") d)) (lacks_template_of (get (codes "tableTemplates") d)) (λ n t. first _ _ (no_parameters e refl t)) (section (codes "tables") d)

parameters_are : (d : Data) → parameters BadParameter d ≡ has_bad_parameters d
parameters_are d = object_or is_bad_parameter (get (codes "parameters") d)

pub table_parameters : (limits : Limits) (d : Data) → tables BadParameter limits d ≡ any_member (λ _ t. has_bad_parameters t) (section (codes "tables") d)
table_parameters limits d =
    alike (table BadParameter (get (codes "tableTemplates") d)) (λ _ t. has_bad_parameters t) (λ n t. parameters_are t) (section (codes "tables") d)

pub own_parameters : (given : ParametersValue) (d : Data)
    → own BadParameter given d ≡ (has_bad_parameters d || any_member (is_given given) (section (codes "parameters") d) || has_bad_parameter_url d)
own_parameters given d = or-same _ _ _ _ (or-same _ _ _ _ (parameters_are d) refl) refl

pub too_many_tables : (limits : Limits) (d : Data) → tables TooLarge limits d ≡ nat_lt limits.tables (count_of (section (codes "tables") d))
too_many_tables limits d =
    let e = TooLarge in
    first _ _ (none (table e (get (codes "tableTemplates") d)) (λ n t. no_parameters e refl t) (section (codes "tables") d))

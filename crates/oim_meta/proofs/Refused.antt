-- A refusal with a place has the first fault.
use Rattle.std.proofs.Common.{◌≡◌, ◌∙◌, ◌≤◌, ◌⊎◌, inl, inr, ℕ, List, Bool, Some, None, true, false, length, refl, sym}
use Rattle.std.specs.Prelude.{codes}
use Rattle.serde_json.specs.Data.{Data}
use Rattle.serde_json.specs.Find.{get}
use Rattle.oim_report.specs.declared.limits.Limits.{Limits}
use Rattle.oim_report.specs.Parameters.{ParametersValue}
use Rattle.oim_report.specs.Types.{TypesValue}
use Rattle.oim_entries.specs.declared.fault.MetaFault.{MetaFault}
use Rattle.oim_entries.specs.declared.fault.MetaFault.TheVariants as fault
use Rattle.oim_meta.specs.declared.findings.Finding.{Finding}
use Rattle.oim_meta.specs.declared.refusal.Refusal.{Refusal}
use Rattle.oim_meta.specs.declared.refusal.Refusal.TheVariants.{Found, Memory}
use Rattle.oim_meta.specs.Members.{if_there}
use Rattle.oim_meta.specs.BadParameters.{has_bad_parameter_url}
use Rattle.oim_meta.specs.Faults.{has_bad_identifier, has_bad_namespaces, has_no_report, has_unknown_template}
use Rattle.oim_meta.specs.UnknownColumn.{has_unknown_column}
use Rattle.oim_meta.specs.FaultOrder.{IsLeastFault}
use Rattle.oim_meta.specs.FirstFault.{first_fault, has_fault}
use Rattle.oim_meta.specs.Findings.{first_of}
use Rattle.oim_meta.specs.Reading.{HasFirst, IsFault, IsJson, IsUnread, IsUrlFault, IsUrlFaultOf, Reads, first_url_fault}
use Rattle.oim_meta.specs.state.Reading.{IsNoJson}
use Rattle.oim_meta.specs.Refusals.{IsFirstOf, IsFinding, IsRefusal, fault_in}
use Rattle.oim_meta.specs.state.Refusals.{refusal_of}
use Rattle.oim_meta.specs.WalkReport.{in_document, in_metadata}
use Rattle.oim_meta.proofs.LeastFault.{is_least}
use Rattle.oim_meta.proofs.FirstFound.{document_is_first, first_found, none_is_first}
use Rattle.oim_meta.proofs.ReportFaults.{all_found}
use Rattle.oim_meta.proofs.DocumentFaults.{bad_namespaces, find_document}

-- Bytes that are within the limit and not JSON text are not read.
pub unread : (limits : Limits) (bytes : List ℕ) (f : MetaFault) → length bytes ≤ limits.metadata → IsNoJson bytes f → IsUnread limits bytes f
unread limits bytes fault.Syntax fits h = (fits, h)
unread limits bytes fault.Memory fits h = tt
unread limits bytes f fits h = absurd h

-- The document's first finding is that of the metadata.
pub of_document : (limits : Limits) (given : ParametersValue) (types : TypesValue) (d : Data) (r : Refusal) → IsFirstOf (in_document d) r → IsFirstOf (in_metadata limits given types d) r
of_document limits given types d (Found x) h = document_is_first limits given types d x h
of_document limits given types d Memory h = tt

-- A document without a finding has good namespaces.
pub good_namespaces : (d : Data) → first_of (in_document d) ≡ None → if_there has_bad_namespaces (get (codes "documentInfo") d) ≡ false
good_namespaces d h =
    sym (bad_namespaces d) ∙ sym (find_document fault.BadNamespaces d) ∙ none_is_first (in_document d) h fault.BadNamespaces

-- The fault of unread bytes is also the fault of the parameters file's name.
pub url_of_unread : (limits : Limits) (bytes : List ℕ) (f : MetaFault) → IsUnread limits bytes f → IsUrlFault limits bytes f
url_of_unread limits bytes fault.TooLarge h = h
url_of_unread limits bytes fault.Syntax h = h
url_of_unread limits bytes fault.Memory h = tt
url_of_unread limits bytes f h = absurd h

two_faults : (d : Data) (f : MetaFault) → first_url_fault d ≡ Some f → (f ≡ fault.NotReport) ⊎ (f ≡ fault.BadParameter)
two_faults d f h = by (has_no_report d) (has_bad_parameter_url d) refl refl
  where
    by : (a b : Bool) → has_no_report d ≡ a → has_bad_parameter_url d ≡ b → (f ≡ fault.NotReport) ⊎ (f ≡ fault.BadParameter)
    by true b no_report bad = let first : Some fault.NotReport ≡ Some f = rw no_report at h in inl cc
    by false true no_report bad = let first : Some fault.BadParameter ≡ Some f = rw (no_report, bad) at h in inr cc
    by false false no_report bad = let first : None ≡ Some f = rw (no_report, bad) at h in absurd cc

-- The fault of a value is a fault of its bytes.
pub url_of_value : (limits : Limits) (bytes : List ℕ) (d : Data) (f : MetaFault) → Reads limits bytes d → IsUrlFaultOf d f → IsUrlFault limits bytes f
url_of_value limits bytes d fault.TooLarge reads h = elim (two_faults d fault.TooLarge h) [
  | inl e ↦ absurd cc
  | inr e ↦ absurd cc
]
url_of_value limits bytes d fault.Syntax reads h = elim (two_faults d fault.Syntax h) [
  | inl e ↦ absurd cc
  | inr e ↦ absurd cc
]
url_of_value limits bytes d fault.Memory reads h = tt
url_of_value limits bytes d f reads h = (reads.0, (d, reads.1, h))

module _ (limits : Limits) (given : ParametersValue) (types : TypesValue) (d : Data) where
  -- A metadata without a finding has no fault.
  pub no_fault : first_of (in_metadata limits given types d) ≡ None → first_fault limits given types d ≡ None
  no_fault h = first_found limits given types d None h

  lacks : first_of (in_metadata limits given types d) ≡ None → (e : MetaFault) → has_fault limits given types d e ≡ false
  lacks h e = sym (all_found limits given types d e) ∙ none_is_first (in_metadata limits given types d) h e

  pub knows_templates : first_of (in_metadata limits given types d) ≡ None → has_unknown_template d ≡ false
  knows_templates h = lacks h fault.UnknownTemplate

  pub knows_columns : first_of (in_metadata limits given types d) ≡ None → has_unknown_column d ≡ false
  knows_columns h = lacks h fault.UnknownColumn

  pub has_identifiers : first_of (in_metadata limits given types d) ≡ None → has_bad_identifier d ≡ false
  has_identifiers h = lacks h fault.BadIdentifier

module _ (limits : Limits) (given : ParametersValue) (types : TypesValue) (bytes : List ℕ) where
  -- The value's first finding is that of the bytes.
  pub of_value : (d : Data) (r : Refusal) → length bytes ≤ limits.metadata → IsJson bytes d → IsFirstOf (in_metadata limits given types d) r → IsRefusal limits given types bytes r
  of_value d (Found x) fits json h = inr (fits, inr (d, json, h))
  of_value d Memory fits json h = tt

  -- The fault of unread bytes is their refusal.
  pub of_unread : (f : MetaFault) → IsUnread limits bytes f → IsRefusal limits given types bytes (refusal_of f)
  of_unread fault.TooLarge h = inl (h, refl)
  of_unread fault.Syntax h = inr (h.0, inl (h.1, refl))
  of_unread fault.Memory h = tt
  of_unread f h = absurd h

  never : (d : Data) → first_fault limits given types d ≡ Some fault.Syntax → ⊥
  never d h = let least : IsLeastFault limits given types d (Some fault.Syntax) = rw h at (is_least limits given types d) in let same : false ≡ true = least.0 in absurd cc

  of_first : (f : MetaFault) → HasFirst limits given types bytes f → IsFault limits given types bytes f
  of_first fault.Syntax h = absurd (never h.1.0 h.1.2)
  of_first fault.Memory h = tt
  of_first fault.TooLarge h = inr h
  of_first f h = h

  of_finding : (x : Finding) → IsFinding limits given types bytes x → IsFault limits given types bytes x.fault
  of_finding x (inl h) = rw h.1 (inl h.0)
  of_finding x (inr h) = elim h.1 [
    | inl text ↦ rw text.1 (h.0, text.0)
    | inr found ↦ of_first x.fault (h.0, (found.0, found.1, first_found limits given types found.0 (Some x) found.2))
  ]

  -- The fault of a refusal is the first fault.
  pub of_refusal : (r : Refusal) → IsRefusal limits given types bytes r → IsFault limits given types bytes (fault_in r)
  of_refusal (Found x) h = of_finding x h
  of_refusal Memory h = tt

-- A walk finds each fault of the whole document exactly if the test for the fault passes.
use Rattle.std.proofs.Common.{◌≡◌, ◌∙◌, Option, Some, None, Bool, false, ◌||◌, ◌&&◌, refl, codes}
use Rattle.std.specs.Prelude.{option_and_then, unwrap_or}
use Rattle.serde_json.specs.Data.{Data, null, boolean, number, string, array, object, Members, no_members}
use Rattle.serde_json.specs.Find.{get, as_object}
use Rattle.oim_entries.specs.declared.fault.MetaFault.{MetaFault}
use Rattle.oim_entries.specs.declared.fault.MetaFault.TheVariants.{NotReport, BadNamespaces, BadTaxonomy, Unsupported}
use Rattle.oim_meta.specs.Members.{section, any_member, if_there, no_object_or}
use Rattle.oim_meta.specs.Order.{repeats_text}
use Rattle.oim_meta.specs.Faults.{has_no_report, has_bad_namespaces, has_bad_taxonomy, has_bad_prefix, is_unsupported, is_bad_prefix, is_no_object, is_no_text, lacks_taxonomy, is_no_empty_list, is_no_empty_object}
use Rattle.oim_meta.specs.FindingPlaces.{has}
use Rattle.oim_meta.specs.WalkReport.{in_prefix, in_namespaces, in_info, in_info_in, in_document}
use Rattle.oim_meta.proofs.FaultSteps.{w, two, here, each, none, nor, off, first, last, or-same}

abbrev extends_another : Data → Bool
extends_another i = if_there is_no_empty_list (get (codes "extends") i)

abbrev has_links : Data → Bool
has_links d = if_there is_no_empty_object (get (codes "links") d)

-- The findings of one fault, as one test.
module _ (e : MetaFault) where
  abbrev namespaces : Data → Bool
  namespaces i =
      (w e BadNamespaces && if_there is_no_object (get (codes "namespaces") i)) || any_member (λ k v. w e BadNamespaces && is_bad_prefix k v) (section (codes "namespaces") i)
      || (w e BadNamespaces && repeats_text (section (codes "namespaces") i))

  abbrev info : Data → Bool
  info i =
      namespaces i || (w e BadTaxonomy && lacks_taxonomy i) || (w e BadTaxonomy && if_there is_no_text (get (codes "baseURL") i))
      || (w e Unsupported && extends_another i)

  abbrev pub document : Data → Bool
  document d =
      (w e NotReport && has_no_report d) || if_there info (get (codes "documentInfo") d) || (w e Unsupported && has_links d)

  find_namespaces : (i : Data) → has e (in_namespaces i) ≡ namespaces i
  unfolding in_namespaces
  find_namespaces i =
      two e _ _ _ _
      (two e _ _ _ _ (here e BadNamespaces _ (if_there is_no_object (get (codes "namespaces") i)))
      (each e in_prefix (λ k v. w e BadNamespaces && is_bad_prefix k v) (λ k v. here e BadNamespaces _ (is_bad_prefix k v)) (section (codes "namespaces") i)))
      (here e BadNamespaces _ (repeats_text (section (codes "namespaces") i)))

  find_info : (i : Data) → has e (in_info i) ≡ info i
  unfolding in_info
  find_info i =
      two e _ _ _ _
      (two e _ _ _ _ (two e _ _ _ _ (find_namespaces i) (here e BadTaxonomy _ (lacks_taxonomy i)))
      (here e BadTaxonomy _ (if_there is_no_text (get (codes "baseURL") i)))) (here e Unsupported _ (extends_another i))

  find_info_in : (o : Option Data) → has e (in_info_in o) ≡ if_there info o
  unfolding in_info_in
  find_info_in None = refl
  find_info_in (Some i) = find_info i

  pub find_document : (d : Data) → has e (in_document d) ≡ document d
  unfolding in_document
  find_document d =
      two e _ _ _ _ (two e _ _ _ _ (here e NotReport _ (has_no_report d)) (find_info_in (get (codes "documentInfo") d))) (here e Unsupported _ (has_links d))

  -- A fault that documents do not have.
  no_namespaces : w e BadNamespaces ≡ false → (i : Data) → namespaces i ≡ false
  no_namespaces n i = nor _ _ (nor _ _ (off _ _ n) (none _ (λ k v. off _ _ n) (section (codes "namespaces") i))) (off _ _ n)

  no_info : w e BadNamespaces ≡ false → w e BadTaxonomy ≡ false → w e Unsupported ≡ false → (i : Data) → info i ≡ false
  no_info n t u i = nor _ _ (nor _ _ (nor _ _ (no_namespaces n i) (off _ _ t)) (off _ _ t)) (off _ _ u)

  no_info_in : w e BadNamespaces ≡ false → w e BadTaxonomy ≡ false → w e Unsupported ≡ false → (o : Option Data) → if_there info o ≡ false
  no_info_in n t u None = refl
  no_info_in n t u (Some i) = no_info n t u i

  pub no_document : w e NotReport ≡ false → w e BadNamespaces ≡ false → w e BadTaxonomy ≡ false → w e Unsupported ≡ false → (d : Data) → document d ≡ false
  no_document r n t u d = nor _ _ (nor _ _ (off _ _ r) (no_info_in n t u (get (codes "documentInfo") d))) (off _ _ u)

-- A value at a key that is not an object, or has a bad prefix, or repeats a URI.
prefixes_or : (o : Option Data)
    → (let ms : Members = unwrap_or (option_and_then as_object o) no_members in if_there is_no_object o || any_member is_bad_prefix ms || repeats_text ms)
    ≡ if_there (no_object_or has_bad_prefix) o
prefixes_or None = refl
prefixes_or (Some null) = refl
prefixes_or (Some (boolean b)) = refl
prefixes_or (Some (number n)) = refl
prefixes_or (Some (string s)) = refl
prefixes_or (Some (array ds)) = refl
prefixes_or (Some (object ms)) = refl

-- Each fault of the document.
pub not_report : (d : Data) → document NotReport d ≡ has_no_report d
not_report d = first _ _ refl ∙ first _ _ (no_info_in NotReport refl refl refl (get (codes "documentInfo") d))

bad_namespaces_of : (i : Data) → info BadNamespaces i ≡ has_bad_namespaces i
unfolding has_bad_namespaces
bad_namespaces_of i = first _ _ refl ∙ first _ _ refl ∙ first _ _ refl ∙ prefixes_or (get (codes "namespaces") i)

bad_namespaces_in : (o : Option Data) → if_there (info BadNamespaces) o ≡ if_there has_bad_namespaces o
bad_namespaces_in None = refl
bad_namespaces_in (Some i) = bad_namespaces_of i

pub bad_namespaces : (d : Data) → document BadNamespaces d ≡ if_there has_bad_namespaces (get (codes "documentInfo") d)
bad_namespaces d = first _ _ refl ∙ bad_namespaces_in (get (codes "documentInfo") d)

bad_taxonomy_of : (i : Data) → info BadTaxonomy i ≡ has_bad_taxonomy i
unfolding has_bad_taxonomy
bad_taxonomy_of i = first _ _ refl ∙ or-same _ _ _ _ (last _ _ (no_namespaces BadTaxonomy refl i)) refl

bad_taxonomy_in : (o : Option Data) → if_there (info BadTaxonomy) o ≡ if_there has_bad_taxonomy o
bad_taxonomy_in None = refl
bad_taxonomy_in (Some i) = bad_taxonomy_of i

pub bad_taxonomy : (d : Data) → document BadTaxonomy d ≡ if_there has_bad_taxonomy (get (codes "documentInfo") d)
bad_taxonomy d = first _ _ refl ∙ bad_taxonomy_in (get (codes "documentInfo") d)

extends_of : (i : Data) → info Unsupported i ≡ extends_another i
extends_of i = last _ _ (first _ _ refl ∙ first _ _ refl ∙ no_namespaces Unsupported refl i)

extends_in : (o : Option Data) → if_there (info Unsupported) o ≡ if_there is_no_empty_list (option_and_then (get (codes "extends")) o)
extends_in None = refl
extends_in (Some i) = extends_of i

pub unsupported : (d : Data) → document Unsupported d ≡ is_unsupported d
unfolding is_unsupported
unsupported d = or-same _ _ _ _ (extends_in (get (codes "documentInfo") d)) refl

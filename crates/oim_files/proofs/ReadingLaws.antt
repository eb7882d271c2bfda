-- The defined results of reading a metadata agree with the relations in the contracts of the calls.
use Rattle.std.proofs.Common.{◌≡◌, ◌∙◌, ap, sym, refl, arith, ℕ, ◌<◌, ◌≤◌, ◌⊎◌, List, [], ◌∷◌, length, Bool, true, false, Option, Some, None, Result, Ok, Err, inl, inr, nat_lt}
use Rattle.std.specs.Prelude.{◌↔◌, if◌then◌else◌, codes, find, option_map}
use Rattle.std.specs.Str.{is_utf8}
use Rattle.std.proofs.lemmas.Str.{IsUtf8-from_is_utf8}
use Rattle.std.proofs.lemmas.Bool.{ltb-false, ltb-true}
use Rattle.serde_json.specs.Data.{Data}
use Rattle.serde_json.specs.Read.{read}
use Rattle.oim_meta.specs.Findings.{first_of}
use Rattle.oim_meta.specs.FirstFault.{first_fault}
use Rattle.oim_meta.specs.Members.{text_at}
use Rattle.oim_meta.specs.Reading.{IsJson, HasNoJson, SaysUrl, IsUrlFault, SaysReport, IsFault, after_mark, first_url_fault, has_url_fault}
use Rattle.oim_meta.specs.Refusals.{IsFinding}
use Rattle.oim_meta.specs.Value.{report_of}
use Rattle.oim_meta.specs.WalkReport.{in_metadata}
use Rattle.oim_meta.specs.declared.findings.Finding.{Finding}
use Rattle.oim_meta.specs.declared.refusal.Refusal.TheVariants.{Found}
use Rattle.oim_meta.proofs.Refused.{no_fault, of_refusal}
use Rattle.oim_report.specs.Parameters.{ParametersValue}
use Rattle.oim_report.specs.ReportValue.{ReportValue}
use Rattle.oim_report.specs.Types.{TypesValue}
use Rattle.oim_report.specs.declared.limits.Limits.{Limits}
use Rattle.oim_entries.specs.declared.fault.MetaFault.{MetaFault}
use Rattle.oim_entries.specs.declared.fault.MetaFault.TheVariants as meta
use Rattle.oim_files.specs.Metadata.{in_json, json_of, of_whole, read_as, report_result, unless_found, url_finding, url_result}
use Rattle.oim_files.proofs.MetadataFacts.{json_is, report_finding, says_report, says_url}

is_json : (bytes : List ℕ) (d : Data) → json_of bytes ≡ Some d → IsJson bytes d
is_json bytes d h = by (is_utf8 (after_mark bytes)) refl h
  where
    by : (b : Bool) → is_utf8 (after_mark bytes) ≡ b → (if b then read (after_mark bytes) else None) ≡ Some d → IsJson bytes d
    by true e k = (IsUtf8-from_is_utf8 (after_mark bytes) e, k)
    by false e k = absurd cc

has_none : (bytes : List ℕ) → json_of bytes ≡ None → HasNoJson bytes
has_none bytes h d is = let same : None ≡ Some d = sym h ∙ json_is bytes d is in absurd cc

-- The result of a metadata within the limit, or why none is read.
module _ {A : Type 0} (limits : Limits) (first : Data → Option Finding) (value : Data → A) (bytes : List ℕ) where
  abbrev answer : Result A Finding
  answer = read_as limits (λ d. unless_found (first d) (value d)) bytes

  abbrev Says : A → Type 0
  Says a = (length bytes ≤ limits.metadata) × ((d : Data) × IsJson bytes d × (first d ≡ None) × (a ≡ value d))

  abbrev HasFirst : Finding → Type 0
  HasFirst x = (d : Data) × IsJson bytes d × (first d ≡ Some x)

  abbrev Refuses : Finding → Type 0
  Refuses x = ((limits.metadata < length bytes) × (x ≡ of_whole meta.TooLarge)) ⊎ ((length bytes ≤ limits.metadata) × ((HasNoJson bytes × (x ≡ of_whole meta.Syntax)) ⊎ HasFirst x))

  said : (a : A) → answer ≡ Ok a → Says a
  said a h = by (nat_lt limits.metadata (length bytes)) refl (json_of bytes) refl h
    where
      found : (d : Data) (o : Option Finding) → first d ≡ o → unless_found o (value d) ≡ Ok a → (first d ≡ None) × (a ≡ value d)
      found d None e k = (e, cc)
      found d (Some x) e k = absurd cc

      by : (b : Bool) → nat_lt limits.metadata (length bytes) ≡ b → (o : Option Data) → json_of bytes ≡ o
          → (if b then Err (of_whole meta.TooLarge) else in_json (λ d. unless_found (first d) (value d)) o) ≡ Ok a → Says a
      by true e o j k = absurd cc
      by false e None j k = absurd cc
      by false e (Some d) j k =
          let told = found d (first d) refl k in
          (omega (arith, ltb-false limits.metadata (length bytes) e), (d, is_json bytes d j, told.0, told.1))

  refused : (x : Finding) → answer ≡ Err x → Refuses x
  refused x h = by (nat_lt limits.metadata (length bytes)) refl (json_of bytes) refl h
    where
      found : (d : Data) (o : Option Finding) → first d ≡ o → unless_found o (value d) ≡ Err x → first d ≡ Some x
      found d None e k = absurd cc
      found d (Some y) e k = let same : y ≡ x = cc in e ∙ ap Some same

      by : (b : Bool) → nat_lt limits.metadata (length bytes) ≡ b → (o : Option Data) → json_of bytes ≡ o
          → (if b then Err (of_whole meta.TooLarge) else in_json (λ d. unless_found (first d) (value d)) o) ≡ Err x → Refuses x
      by true e o j k = inl (ltb-true limits.metadata (length bytes) e, cc)
      by false e None j k = inr (omega (arith, ltb-false limits.metadata (length bytes) e), inl (has_none bytes j, cc))
      by false e (Some d) j k = inr (omega (arith, ltb-false limits.metadata (length bytes) e), inr (d, is_json bytes d j, found d (first d) refl k))

-- THE NAME OF THE PARAMETERS FILE

-- The item that a search finds passes its test.
found_has : (p : MetaFault → Bool) (xs : List MetaFault) (f : MetaFault) → find p xs ≡ Some f → p f ≡ true
found_has p [] f found = absurd cc
found_has p (x ∷ xs) f found = at (p x) refl found (λ k. found_has p xs f k)
  where
    at : (b : Bool) → p x ≡ b → (if b then Some x else find p xs) ≡ Some f → (find p xs ≡ Some f → p f ≡ true) → p f ≡ true
    at true here k later = let one : x ≡ f = cc in rw (← one) here
    at false here k later = later k

url_lacks : (f : MetaFault) → ((d : Data) → has_url_fault d f ≡ false) → (d : Data) → first_url_fault d ≡ Some f → ⊥
url_lacks f none d h =
    let has = found_has (has_url_fault d) (meta.NotReport ∷ meta.BadParameter ∷ []) f h in
    let no = none d in
    absurd cc

module _ (limits : Limits) (bytes : List ℕ) where
  abbrev url : Data → Option (List ℕ)
  url = text_at (codes "parameterURL")

  abbrev first_url : Data → Option Finding
  first_url d = option_map url_finding (first_url_fault d)

  no_finding : (o : Option MetaFault) → option_map url_finding o ≡ None → o ≡ None
  no_finding None h = refl
  no_finding (Some f) h = absurd cc

  pub url_law : (name : Option (List ℕ)) → (url_result limits bytes ≡ Ok name) ↔ SaysUrl limits bytes name
  url_law name = (
    λ h. let s = said limits first_url url bytes name h in
        (s.0, (s.1.0, s.1.1, (no_finding (first_url_fault s.1.0) s.1.2, s.1.3))),
    says_url limits bytes name,
  )

  -- A fault with its place.
  abbrev Names : Finding → Type 0
  Names x = (f : MetaFault) × IsUrlFault limits bytes f × ((x ≡ url_finding f))

  of_fault : (f : MetaFault) (d : Data) → length bytes ≤ limits.metadata → IsJson bytes d → first_url_fault d ≡ Some f → IsUrlFault limits bytes f
  of_fault meta.TooLarge d fits json h = absurd (url_lacks meta.TooLarge (λ d. refl) d h)
  of_fault meta.Syntax d fits json h = absurd (url_lacks meta.Syntax (λ d. refl) d h)
  of_fault meta.Memory d fits json h = tt
  of_fault f d fits json h = (fits, (d, json, h))

  of_first : (x : Finding) (d : Data) (o : Option MetaFault) → length bytes ≤ limits.metadata → IsJson bytes d → first_url_fault d ≡ o → option_map url_finding o ≡ Some x → Names x
  of_first x d None fits json is h = absurd cc
  of_first x d (Some f) fits json is h = let same : x ≡ url_finding f = cc in (f, of_fault f d fits json is, same)

  refuses_url : (x : Finding) → Refuses limits first_url url bytes x → Names x
  refuses_url x (inl h) = (meta.TooLarge, h.0, h.1)
  refuses_url x (inr (fits, inl h)) = (meta.Syntax, (fits, h.0), h.1)
  refuses_url x (inr (fits, inr h)) = of_first x h.0 (first_url_fault h.0) fits h.1 refl h.2

  pub url_fault_law : (x : Finding) → url_result limits bytes ≡ Err x → Names x
  url_fault_law x h = refuses_url x (refused limits first_url url bytes x h)

-- THE REPORT
module _ (limits : Limits) (given : ParametersValue) (types : TypesValue) (bytes : List ℕ) where
  abbrev first : Data → Option Finding
  first d = first_of (in_metadata limits given types d)

  abbrev report : Data → ReportValue
  report = report_of given types

  pub report_law : (r : ReportValue) → (report_result limits given types bytes ≡ Ok r) ↔ SaysReport limits given types bytes r
  report_law r = (
    λ h. let s = said limits first report bytes r h in
        (s.0, (s.1.0, s.1.1, no_fault limits given types s.1.0 s.1.2, s.1.3)),
    says_report limits given types bytes r,
  )

  pub report_finding_law : (x : Finding) → (report_result limits given types bytes ≡ Err x) ↔ IsFinding limits given types bytes x
  report_finding_law x = (refused limits first report bytes x, report_finding limits given types bytes x)

  pub report_fault_law : (x : Finding) → report_result limits given types bytes ≡ Err x → IsFault limits given types bytes x.fault
  report_fault_law x h = of_refusal limits given types bytes (Found x) (refused limits first report bytes x h)

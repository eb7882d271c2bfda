-- The calls that read a metadata return its result as it is defined.
use Rattle.std.proofs.Common.{◌≡◌, ◌∙◌, refl, sym, ap, arith, ℕ, ◌+◌, ◌<◌, ◌≤◌, ◌⊎◌, List, length, take, Bool, true, false, Option, Some, None, Result, Ok, Err, inl, inr, nat_lt}
use Rattle.std.specs.Prelude.{if◌then◌else◌, codes, option_map}
use Rattle.std.specs.Str.{is_utf8}
use Rattle.std.proofs.lemmas.Str.{IsUtf8-from_is_utf8, is_utf8-from_IsUtf8}
use Rattle.std.proofs.lemmas.Bool.{le-ltb, lt-ltb, ltb-false, ltb-true}
use Rattle.std.proofs.lemmas.List.{length-take, take_all}
use Rattle.serde_json.specs.Data.{Data}
use Rattle.serde_json.specs.Read.{read}
use Rattle.oim_meta.specs.Findings.{first_of}
use Rattle.oim_meta.specs.FirstFault.{first_fault}
use Rattle.oim_meta.specs.Members.{text_at}
use Rattle.oim_report.specs.Parameters.{ParametersValue}
use Rattle.oim_meta.specs.Reading.{IsJson, HasNoJson, IsUnread, SaysUrl, IsUrlFault, SaysReport, after_mark, first_url_fault}
use Rattle.oim_meta.specs.Refusals.{IsFinding}
use Rattle.oim_meta.specs.WalkReport.{in_metadata}
use Rattle.oim_meta.specs.declared.findings.Finding.{Finding}
use Rattle.oim_meta.proofs.FirstFound.{first_found}
use Rattle.oim_meta.proofs.Refused.{url_of_unread}
use Rattle.oim_report.specs.ReportValue.{ReportValue}
use Rattle.oim_report.specs.Types.{TypesValue}
use Rattle.oim_meta.specs.Value.{report_of}
use Rattle.oim_entries.specs.declared.fault.MetaFault.{MetaFault}
use Rattle.oim_entries.specs.declared.fault.MetaFault.TheVariants as meta
use Rattle.oim_report.specs.declared.limits.Limits.{Limits}
use Rattle.oim_files.specs.Metadata.{front_within, in_json, json_of, of_whole, read_as, report_in, report_result, unless_found, url_finding, url_in, url_result}

pub json_is : (bytes : List ℕ) (d : Data) → IsJson bytes d → json_of bytes ≡ Some d
json_is bytes d is = ap (λ b. if b then read (after_mark bytes) else None) (is_utf8-from_IsUtf8 (after_mark bytes) is.0) ∙ is.1

json_by : (bytes : List ℕ) (b : Bool) (o : Option Data) → is_utf8 (after_mark bytes) ≡ b → read (after_mark bytes) ≡ o → HasNoJson bytes → (if b then o else None) ≡ None
json_by bytes false o utf8 reads none = refl
json_by bytes true None utf8 reads none = refl
json_by bytes true (Some d) utf8 reads none = absurd (none d (IsUtf8-from_is_utf8 (after_mark bytes) utf8, reads))

no_json : (bytes : List ℕ) → HasNoJson bytes → json_of bytes ≡ None
no_json bytes = json_by bytes (is_utf8 (after_mark bytes)) (read (after_mark bytes)) refl refl

pub reads_large : {A : Type 0} (limits : Limits) (next : Data → Result A Finding) (bytes : List ℕ) → limits.metadata < length bytes → read_as limits next bytes ≡ Err (of_whole meta.TooLarge)
reads_large limits next bytes l = ap (λ b. if b then Err (of_whole meta.TooLarge) else in_json next (json_of bytes)) (lt-ltb limits.metadata (length bytes) l)

reads_small : {A : Type 0} (limits : Limits) (next : Data → Result A Finding) (bytes : List ℕ) → length bytes ≤ limits.metadata → read_as limits next bytes ≡ in_json next (json_of bytes)
reads_small limits next bytes l = ap (λ b. if b then Err (of_whole meta.TooLarge) else in_json next (json_of bytes)) (le-ltb limits.metadata (length bytes) l)

reads_none : {A : Type 0} (limits : Limits) (next : Data → Result A Finding) (bytes : List ℕ) → (length bytes ≤ limits.metadata) × HasNoJson bytes → read_as limits next bytes ≡ Err (of_whole meta.Syntax)
reads_none limits next bytes h = reads_small limits next bytes h.0 ∙ ap (in_json next) (no_json bytes h.1)

pub reads_value : {A : Type 0} (limits : Limits) (next : Data → Result A Finding) (bytes : List ℕ) (d : Data) → length bytes ≤ limits.metadata → IsJson bytes d → read_as limits next bytes ≡ next d
reads_value limits next bytes d l is = reads_small limits next bytes l ∙ ap (in_json next) (json_is bytes d is)

pub says_url : (limits : Limits) (bytes : List ℕ) (url : Option (List ℕ)) → SaysUrl limits bytes url → url_result limits bytes ≡ Ok url
says_url limits bytes url h =
    reads_value limits url_in bytes h.1.0 h.0 h.1.1 ∙ ap (λ f. unless_found (option_map url_finding f) (text_at (codes "parameterURL") h.1.0)) h.1.2.0 ∙ ap Ok (sym h.1.2.1)

-- A metadata without a fault has no finding.
pub nothing_found : (limits : Limits) (given : ParametersValue) (types : TypesValue) (d : Data) → first_fault limits given types d ≡ None → first_of (in_metadata limits given types d) ≡ None
nothing_found limits given types d none = by (first_of (in_metadata limits given types d)) refl
  where
    by : (o : Option Finding) → first_of (in_metadata limits given types d) ≡ o → o ≡ None
    by None is = refl
    by (Some x) is = let same : None ≡ Some x.fault = sym none ∙ first_found limits given types d (Some x) is in absurd cc

pub says_report : (limits : Limits) (given : ParametersValue) (types : TypesValue) (bytes : List ℕ) (r : ReportValue)
    → SaysReport limits given types bytes r → report_result limits given types bytes ≡ Ok r
says_report limits given types bytes r h =
    reads_value limits (report_in limits given types) bytes h.1.0 h.0 h.1.1
    ∙ ap (λ x. unless_found x (report_of given types h.1.0)) (nothing_found limits given types h.1.0 h.1.2) ∙ ap Ok (sym h.1.3)

-- A finding of the value.
has_first : {A : Type 0} (limits : Limits) (first : Data → Option Finding) (value : Data → A) (bytes : List ℕ) (x : Finding)
    → (length bytes ≤ limits.metadata) × ((d : Data) × IsJson bytes d × (first d ≡ Some x))
    → read_as limits (λ d. unless_found (first d) (value d)) bytes ≡ Err x
has_first limits first value bytes x h =
    reads_value limits (λ d. unless_found (first d) (value d)) bytes h.1.0 h.0 h.1.1 ∙ ap (λ o. unless_found o (value h.1.0)) h.1.2

has_url_fault : (limits : Limits) (bytes : List ℕ) (f : MetaFault) → (length bytes ≤ limits.metadata) × ((d : Data) × IsJson bytes d × (first_url_fault d ≡ Some f))
    → (f ≡ meta.Memory) ⊎ (url_result limits bytes ≡ Err (url_finding f))
has_url_fault limits bytes f h =
    inr (has_first limits (λ d. option_map url_finding (first_url_fault d)) (text_at (codes "parameterURL")) bytes (url_finding f)
    (h.0, (h.1.0, h.1.1, ap (option_map url_finding) h.1.2)))

pub url_fault : (limits : Limits) (bytes : List ℕ) (f : MetaFault) → IsUrlFault limits bytes f → (f ≡ meta.Memory) ⊎ (url_result limits bytes ≡ Err (url_finding f))
url_fault limits bytes meta.TooLarge h = inr (reads_large limits url_in bytes h)
url_fault limits bytes meta.Syntax h = inr (reads_none limits url_in bytes h)
url_fault limits bytes meta.Memory h = inl refl
url_fault limits bytes f h = has_url_fault limits bytes f h

-- The fault of unread bytes is also the fault of their URL, and of the file as a whole.
pub unread_url : (limits : Limits) (bytes : List ℕ) (f : MetaFault) → IsUnread limits bytes f → (f ≡ meta.Memory) ⊎ (url_result limits bytes ≡ Err (of_whole f))
unread_url limits bytes meta.TooLarge h = inr (reads_large limits url_in bytes h)
unread_url limits bytes meta.Syntax h = inr (reads_none limits url_in bytes h)
unread_url limits bytes meta.Memory h = inl refl
unread_url limits bytes f h = absurd h

pub report_finding : (limits : Limits) (given : ParametersValue) (types : TypesValue) (bytes : List ℕ) (x : Finding) → IsFinding limits given types bytes x
    → report_result limits given types bytes ≡ Err x
report_finding limits given types bytes x (inl h) = reads_large limits (report_in limits given types) bytes h.0 ∙ ap Err (sym h.1)
report_finding limits given types bytes x (inr (fits, inl h)) = reads_none limits (report_in limits given types) bytes (fits, h.0) ∙ ap Err (sym h.1)
report_finding limits given types bytes x (inr (fits, inr h)) =
    has_first limits (λ d. first_of (in_metadata limits given types d)) (report_of given types) bytes x (fits, h)

-- The report of a JSON value.
module _ (limits : Limits) (given : ParametersValue) (types : TypesValue) (d : Data) where
  pub value_says : (r : ReportValue) → first_fault limits given types d ≡ None → r ≡ report_of given types d → report_in limits given types d ≡ Ok r
  value_says r sound is = ap (λ x. unless_found x (report_of given types d)) (nothing_found limits given types d sound) ∙ ap Ok (sym is)

  pub value_refuses : (x : Finding) → first_of (in_metadata limits given types d) ≡ Some x → report_in limits given types d ≡ Err x
  value_refuses x h = ap (λ o. unless_found o (report_of given types d)) h

-- Bytes past the limit do not matter.
take_reads : {A : Type 0} (limits : Limits) (next : Data → Result A Finding) (bytes : List ℕ) (b : Bool) → nat_lt limits.metadata (length bytes) ≡ b
    → read_as limits next (front_within limits bytes) ≡ read_as limits next bytes
take_reads limits next bytes true long =
    let past = ltb-true limits.metadata (length bytes) long in
    reads_large limits next (front_within limits bytes) (omega (arith, length-take (limits.metadata + 1) bytes, past))
    ∙ sym (reads_large limits next bytes past)
take_reads limits next bytes false short =
    ap (read_as limits next) (take_all (limits.metadata + 1) bytes (omega (arith, ltb-false limits.metadata (length bytes) short)))

pub url_taken : (limits : Limits) (bytes : List ℕ) → url_result limits (front_within limits bytes) ≡ url_result limits bytes
url_taken limits bytes = take_reads limits url_in bytes (nat_lt limits.metadata (length bytes)) refl

pub report_taken : (limits : Limits) (given : ParametersValue) (types : TypesValue) (bytes : List ℕ)
    → report_result limits given types (front_within limits bytes) ≡ report_result limits given types bytes
report_taken limits given types bytes = take_reads limits (report_in limits given types) bytes (nat_lt limits.metadata (length bytes)) refl

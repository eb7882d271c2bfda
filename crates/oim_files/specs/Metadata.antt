-- The limits of this profile, and the result of reading a metadata within limits: a value, or its
-- first fault with the place.
use Rattle.std.specs.Prelude.{ℕ, ◌+◌, List, [], ◌∷◌, ◌++◌, length, take, nat_lt, if◌then◌else◌, Option, Some, None, option_map, Result, Ok, Err, codes}
use Rattle.std.specs.Str.{is_utf8}
use Rattle.serde_json.specs.Data.{Data}
use Rattle.serde_json.specs.Read.{read}
use Rattle.oim_meta.specs.Findings.{finding, first_of}
use Rattle.oim_meta.specs.Members.{text_at}
use Rattle.oim_meta.specs.Paths.{Path, document_path}
use Rattle.oim_report.specs.Parameters.{ParametersValue}
use Rattle.oim_meta.specs.Reading.{after_mark, first_url_fault}
use Rattle.oim_report.specs.ReportValue.{ReportValue}
use Rattle.oim_report.specs.Types.{TypesValue}
use Rattle.oim_meta.specs.Value.{report_of}
use Rattle.oim_meta.specs.WalkReport.{in_metadata}
use Rattle.oim_meta.specs.declared.findings.Finding.{Finding}
use Rattle.oim_entries.specs.declared.fault.MetaFault.{MetaFault}
use Rattle.oim_entries.specs.declared.fault.MetaFault.TheVariants as meta
use Rattle.oim_report.specs.declared.limits.Limits.{Limits}

-- The limits of this profile.
abbrev pub profile : Limits
profile = record { rows = 100_000_000; tables = 4_096; columns = 4_096; metadata = 67_108_864 }

-- The prefix of a metadata that is read: its bytes up to one past the limit.
abbrev pub front_within : Limits → List ℕ → List ℕ
front_within limits bytes = take (limits.metadata + 1) bytes

-- The JSON value of the bytes, after a byte-order mark if there is one.
abbrev pub json_of : List ℕ → Option Data
json_of bytes = if is_utf8 (after_mark bytes) then read (after_mark bytes) else None

-- A fault of a file as a whole: no keys lead to it.
abbrev pub of_whole : MetaFault → Finding
of_whole f = finding f []

-- The value, unless there is a finding.
abbrev pub unless_found : {A : Type 0} → Option Finding → A → Result A Finding
unless_found None a = Ok a
unless_found (Some x) a = Err x

-- The result from the JSON value, if there is one.
abbrev pub in_json : {A : Type 0} → (Data → Result A Finding) → Option Data → Result A Finding
in_json next None = Err (of_whole meta.Syntax)
in_json next (Some d) = next d

-- The result from a metadata that is not too large and is JSON.
abbrev pub read_as : {A : Type 0} → Limits → (Data → Result A Finding) → List ℕ → Result A Finding
read_as limits next bytes = if nat_lt limits.metadata (length bytes) then Err (of_whole meta.TooLarge) else in_json next (json_of bytes)

-- The place of a fault that is tested with the name of the parameters file.
abbrev pub url_place : MetaFault → Path
url_place meta.NotReport = document_path ++ codes "documentType" ∷ []
url_place meta.BadParameter = codes "parameterURL" ∷ []
url_place f = []

abbrev pub url_finding : MetaFault → Finding
url_finding f = finding f (url_place f)

abbrev pub url_in : Data → Result (Option (List ℕ)) Finding
url_in d = unless_found (option_map url_finding (first_url_fault d)) (text_at (codes "parameterURL") d)

abbrev pub report_in : Limits → ParametersValue → TypesValue → Data → Result ReportValue Finding
report_in limits given types d = unless_found (first_of (in_metadata limits given types d)) (report_of given types d)

-- The URL of the parameters file, if the metadata has one.
abbrev pub url_result : Limits → List ℕ → Result (Option (List ℕ)) Finding
url_result limits = read_as limits url_in

-- The report, with the parameters of the parameters file and the types of the types table.
abbrev pub report_result : Limits → ParametersValue → TypesValue → List ℕ → Result ReportValue Finding
report_result limits given types = read_as limits (report_in limits given types)

-- The results of reading a metadata from its bytes. One byte-order mark (EF BB BF) at their start
-- is skipped.
use Rattle.std.specs.Prelude.{◌≡◌, ◌<◌, ◌≤◌, ◌⊎◌, ℕ, List, length, take, drop, [], ◌∷◌, Bool, false, nat_eq, if◌then◌else◌, Option, Some, None, IsUtf8, codes, find}
use Rattle.std.specs.Cmp.Lexicographic.{pointwise}
use Rattle.serde_json.specs.Data.{Data}
use Rattle.serde_json.specs.Read.{read}
use Rattle.oim_entries.specs.declared.fault.MetaFault.{MetaFault}
use Rattle.oim_entries.specs.declared.fault.MetaFault.TheVariants.{Syntax, NotReport, BadParameter, TooLarge, Memory}
use Rattle.oim_report.specs.declared.limits.Limits.{Limits}
use Rattle.oim_report.specs.Parameters.{ParametersValue}
use Rattle.oim_report.specs.Types.{TypesValue}
use Rattle.oim_report.specs.ReportValue.{ReportValue}
use Rattle.oim_meta.specs.Members.{text_at}
use Rattle.oim_meta.specs.Faults.{has_no_report}
use Rattle.oim_meta.specs.BadParameters.{has_bad_parameter_url}
use Rattle.oim_meta.specs.FirstFault.{first_fault}
use Rattle.oim_meta.specs.Value.{report_of}

-- The bytes after a leading mark.
abbrev pub after_mark : List ℕ → List ℕ
after_mark bytes = if pointwise nat_eq (take 3 bytes) (239 ∷ 187 ∷ 191 ∷ []) then drop 3 bytes else bytes

-- The bytes are JSON text for d, as `serde_json` reads it: at most 127 levels. If an object has a
-- key twice, the last value counts.
abbrev pub IsJson : List ℕ → Data → Type 0
IsJson bytes d = IsUtf8 (after_mark bytes) × (read (after_mark bytes) ≡ Some d)

-- The bytes are not JSON text for any value.
abbrev pub HasNoJson : List ℕ → Type 0
HasNoJson bytes = (d : Data) → IsJson bytes d → ⊥

-- The bytes are within the limit, and JSON text for d.
abbrev pub Reads : Limits → List ℕ → Data → Type 0
Reads limits bytes d = (length bytes ≤ limits.metadata) × IsJson bytes d

-- Why no JSON is read from the bytes: there are too many, or they are not JSON text. Memory may run
-- out for any bytes.
abbrev pub IsUnread : Limits → List ℕ → MetaFault → Type 0
IsUnread limits bytes TooLarge = limits.metadata < length bytes
IsUnread limits bytes Syntax = (length bytes ≤ limits.metadata) × HasNoJson bytes
IsUnread limits bytes Memory = Unit {0}
IsUnread limits bytes f = ⊥

-- The report of the bytes.
abbrev pub SaysReport : Limits → ParametersValue → TypesValue → List ℕ → ReportValue → Type 0
SaysReport limits given types bytes r = (length bytes ≤ limits.metadata) × ((d : Data) × IsJson bytes d × (first_fault limits given types d ≡ None) × (r ≡ report_of given types d))

-- The first fault of the value whose JSON text the bytes are.
abbrev pub HasFirst : Limits → ParametersValue → TypesValue → List ℕ → MetaFault → Type 0
HasFirst limits given types bytes f = (length bytes ≤ limits.metadata) × ((d : Data) × IsJson bytes d × (first_fault limits given types d ≡ Some f))

-- The first fault of the bytes. Memory may run out for any bytes.
abbrev pub IsFault : Limits → ParametersValue → TypesValue → List ℕ → MetaFault → Type 0
IsFault limits given types bytes TooLarge = (limits.metadata < length bytes) ⊎ HasFirst limits given types bytes TooLarge
IsFault limits given types bytes Syntax = (length bytes ≤ limits.metadata) × HasNoJson bytes
IsFault limits given types bytes Memory = Unit {0}
IsFault limits given types bytes f = HasFirst limits given types bytes f

-- The faults that are tested with the name of the parameters file.
abbrev pub has_url_fault : Data → MetaFault → Bool
has_url_fault d NotReport = has_no_report d
has_url_fault d BadParameter = has_bad_parameter_url d
has_url_fault d f = false

abbrev pub first_url_fault : Data → Option MetaFault
first_url_fault d = find (has_url_fault d) (NotReport ∷ BadParameter ∷ [])

-- The name of the parameters file that a value gives, if any.
abbrev pub IsUrlOf : Data → Option (List ℕ) → Type 0
IsUrlOf d url = (first_url_fault d ≡ None) × (url ≡ text_at (codes "parameterURL") d)

-- The first of these faults of a value. Memory may run out for any value.
abbrev pub IsUrlFaultOf : Data → MetaFault → Type 0
IsUrlFaultOf d Memory = Unit {0}
IsUrlFaultOf d f = first_url_fault d ≡ Some f

-- The name of the parameters file that the bytes give, if any.
abbrev pub SaysUrl : Limits → List ℕ → Option (List ℕ) → Type 0
SaysUrl limits bytes url = (length bytes ≤ limits.metadata) × ((d : Data) × IsJson bytes d × IsUrlOf d url)

abbrev pub HasFirstUrlFault : Limits → List ℕ → MetaFault → Type 0
HasFirstUrlFault limits bytes f = (length bytes ≤ limits.metadata) × ((d : Data) × IsJson bytes d × (first_url_fault d ≡ Some f))

-- The first of these faults of the bytes. Memory may run out for any bytes.
abbrev pub IsUrlFault : Limits → List ℕ → MetaFault → Type 0
IsUrlFault limits bytes TooLarge = limits.metadata < length bytes
IsUrlFault limits bytes Syntax = (length bytes ≤ limits.metadata) × HasNoJson bytes
IsUrlFault limits bytes Memory = Unit {0}
IsUrlFault limits bytes f = HasFirstUrlFault limits bytes f

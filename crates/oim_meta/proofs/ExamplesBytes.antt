-- The bytes of a metadata, and the name of its parameters file, on worked cases. The results are
-- from xBRL-CSV 1.0.
use Rattle.std.proofs.Common.{◌≡◌, [], ◌∷◌, Some, None, refl, codes, map}
use Rattle.serde_json.specs.Data.{Data, null, string, object, Members, no_members, member}
use Rattle.oim_meta.specs.Reading.{after_mark, first_url_fault}
use Rattle.oim_meta.specs.Faults.{has_no_report}
use Rattle.oim_meta.specs.BadParameters.{has_bad_parameter_url}
use Rattle.oim_names.specs.PlainPath.{is_plain_path}
use Rattle.oim_entries.specs.declared.fault.MetaFault.TheVariants.{NotReport}
use Rattle.oim_entries.specs.declared.fault.MetaFault.TheVariants.{BadParameter}

-- THE BYTES: one byte-order mark is skipped.
marks : map after_mark ((239 ∷ 187 ∷ 191 ∷ 123 ∷ []) ∷ (239 ∷ 187 ∷ 191 ∷ 239 ∷ 187 ∷ 191 ∷ []) ∷ (239 ∷ 187 ∷ 123 ∷ []) ∷ (123 ∷ []) ∷ [])
    ≡ (123 ∷ []) ∷ (239 ∷ 187 ∷ 191 ∷ []) ∷ (239 ∷ 187 ∷ 123 ∷ []) ∷ (123 ∷ []) ∷ []
marks = refl

-- THE NAME OF THE PARAMETERS FILE
abbrev csv_with : Members → Data
csv_with ms = object (member (codes "documentInfo") (object (member (codes "documentType") (string (codes "https://xbrl.org/2021/xbrl-csv")) no_members)) ms)

url_faults :
    map first_url_fault
    (null ∷ object (member (codes "parameterURL") null no_members) ∷ csv_with (member (codes "parameterURL") null no_members)
    ∷ csv_with (member (codes "parameterURL") (string (codes "../p.csv")) no_members)
    ∷ csv_with (member (codes "parameterURL") (string (codes "p.csv")) no_members) ∷ csv_with (member (codes "parameters") null no_members) ∷ [])
    ≡ Some NotReport ∷ Some NotReport ∷ Some BadParameter ∷ Some BadParameter ∷ None ∷ None ∷ []
unfolding has_no_report has_bad_parameter_url is_plain_path
url_faults = refl

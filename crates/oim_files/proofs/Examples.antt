-- The definitions on worked cases. The rules are this project's order of steps and its limits.
use Rattle.std.proofs.Common.{◌≡◌, ◌++◌, ◌∷◌, [], ℕ, List, Option, Some, None, Ok, Err, codes, inl, inr, map, refl, take, if◌then◌else◌}
use Rattle.std.specs.Borrow.{Bor}
use Rattle.std.specs.Str.{bytes_eq, chars, is_utf8}
use lib.Utf8.{encode}
use Rattle.csv.specs.Machine.{next_record}
use Rattle.csv.specs.Reading.{records_from, strip_bom}
use Rattle.serde_json.specs.Data.{Data, Members, member, no_members, object, string}
use Rattle.oim_meta.specs.BadParameters.{has_bad_parameter_url}
use Rattle.oim_meta.specs.Faults.{has_no_report}
use Rattle.oim_names.specs.PlainPath.{is_plain_path}
use Rattle.oim_meta.specs.Findings.{finding}
use Rattle.oim_meta.specs.declared.findings.Finding.{Finding}
use Rattle.oim_entries.specs.BadEntries.{BadRecord}
use Rattle.oim_entries.specs.EntryFaults.{in_cell, of_whole as entry_as_whole}
use Rattle.oim_entries.specs.declared.entry_fault.EntryProblem.TheVariants.{BadName, NoHeader, TooMany}
use Rattle.oim_entries.specs.declared.entry_fault.EntryRefusal.TheVariants.{Bad, Unread}
use Rattle.oim_entries.specs.declared.fault.MetaFault.{MetaFault}
use Rattle.oim_entries.specs.declared.fault.MetaFault.TheVariants as refused
use Rattle.oim_records.specs.Grids.{records_left}
use Rattle.oim_records.specs.declared.read_fault.ReadFault.TheVariants as unread
use Rattle.oim_report.specs.ReportValue.{ReportValue}
use Rattle.oim_report.specs.declared.limits.Limits.{Limits}
use Rattle.oim_files.specs.Folders.{Files, first_at}
use Rattle.oim_meta.specs.Walk.{in_dimensions, in_level, in_templates}
use Rattle.oim_meta.specs.WalkReport.{in_document, in_info_in, in_metadata, in_parts}
use Rattle.oim_meta.specs.WalkTables.{in_own_parameters, in_parameters, in_tables}
use Rattle.oim_files.specs.Metadata.{front_within, json_of, of_whole, profile, read_as, report_in, url_in, url_place}
use Rattle.oim_files.specs.Steps.{Stops, looking, metadata_steps, opening, parameters_steps, reading, step, steps, types_steps, value_or}
use Rattle.oim_files.specs.declared.early_fault.EarlyFault.{EarlyFault}
use Rattle.oim_files.specs.declared.early_fault.EarlyFault.TheVariants as early
use Rattle.oim_files.specs.declared.early_fault.FileFault.{FileFault}
use Rattle.oim_files.specs.declared.early_fault.Source.TheVariants as source
use Rattle.oim_files.specs.state.Refusals.{of_refusal}

-- A text at any address in memory.
abbrev word : List ℕ → Bor (List ℕ)
word text = record { ref_ptr = (0, 0); now = text }

-- THE LIMITS

limits : profile ≡ record { rows = 100_000_000; tables = 4_096; columns = 4_096; metadata = 67_108_864 }
limits = refl

-- THE METADATA

-- A report with these members.
abbrev csv_with : Members → Data
csv_with members = object (member (codes "documentInfo") (object (member (codes "documentType") (string (codes "https://xbrl.org/2021/xbrl-csv")) no_members)) members)

abbrev two_bytes : Limits
two_bytes = record profile { metadata = 2 }

-- A metadata with as many bytes as the limit is read. One with more is not.
metadata_at_the_limit : read_as {A = ℕ} two_bytes (λ _. Ok 0) (255 ∷ 255 ∷ []) ≡ Err (finding refused.Syntax [])
unfolding is_utf8 chars
metadata_at_the_limit = refl

metadata_past_the_limit : read_as {A = ℕ} two_bytes (λ _. Ok 0) (255 ∷ 255 ∷ 255 ∷ []) ≡ Err (finding refused.TooLarge [])
metadata_past_the_limit = refl

-- One byte past the limit is read, and no byte after it.
front_past_the_limit : front_within two_bytes (1 ∷ 2 ∷ 3 ∷ 4 ∷ []) ≡ 1 ∷ 2 ∷ 3 ∷ []
front_past_the_limit = refl

-- A byte-order mark is skipped, and a text that is not UTF-8 is not JSON.
json_after_a_mark : json_of (239 ∷ 187 ∷ 191 ∷ codes "null") ≡ json_of (codes "null")
unfolding is_utf8 chars encode
json_after_a_mark = refl

json_without_utf8 : json_of (255 ∷ []) ≡ None
unfolding is_utf8 chars encode
json_without_utf8 = refl

named_file : url_in (csv_with (member (codes "parameterURL") (string (codes "p.csv")) no_members)) ≡ Ok (Some (codes "p.csv"))
unfolding has_no_report has_bad_parameter_url is_plain_path
named_file = refl

no_named_file : url_in (csv_with no_members) ≡ Ok None
unfolding has_no_report has_bad_parameter_url is_plain_path
no_named_file = refl

named_file_above : url_in (csv_with (member (codes "parameterURL") (string (codes "../p.csv")) no_members)) ≡ Err (finding refused.BadParameter (codes "parameterURL" ∷ []))
unfolding has_no_report has_bad_parameter_url is_plain_path
named_file_above = refl

-- The document type is tested first.
no_document_type : url_in (object (member (codes "parameterURL") (string (codes "../p.csv")) no_members)) ≡ Err (finding refused.NotReport (codes "documentInfo" ∷ codes "documentType" ∷ []))
unfolding has_no_report has_bad_parameter_url is_plain_path
no_document_type = refl

-- No other fault has a place before the metadata is walked.
other_places : map url_place (refused.Syntax ∷ refused.TooLarge ∷ refused.Memory ∷ []) ≡ [] ∷ [] ∷ [] ∷ []
other_places = refl

-- The report's fault is the first finding of the walk, with its place.
report_place : report_in profile [] [] (object no_members) ≡ Err (finding refused.NotReport (codes "documentInfo" ∷ codes "documentType" ∷ []))
unfolding in_metadata in_document in_info_in in_parts in_level in_dimensions in_templates in_tables in_own_parameters in_parameters has_no_report has_bad_parameter_url
report_place = refl

-- THE FILES

-- A file as a whole, which has no place in a metadata. The path is that of the parameters file.
abbrev as_whole : Option (List ℕ) → MetaFault → FileFault
as_whole path f = record { finding = finding f []; path = path; entry = None }

abbrev of_types : MetaFault → EarlyFault
of_types f = early.Report source.Types (as_whole None f)

abbrev of_metadata_file : Finding → EarlyFault
of_metadata_file x = early.Report source.Report (record { finding = x; path = None; entry = None })

abbrev at_the_url : Finding
at_the_url = finding refused.BadParameter (codes "parameterURL" ∷ [])

-- The first of two files with one path.
first_files : map (first_at ((word (codes "a"), word (codes "1")) ∷ (word (codes "b"), word (codes "2")) ∷ (word (codes "a"), word (codes "3")) ∷ []))
    (codes "a" ∷ codes "b" ∷ codes "c" ∷ []) ≡ Some (codes "1") ∷ Some (codes "2") ∷ None ∷ []
first_files = refl

abbrev held : Files
held path = if bytes_eq path (codes "f/m.json") then Some (codes "{")
    else if bytes_eq path (codes "f/t1.csv") then Some (codes "cash\n")
    else if bytes_eq path (codes "f/types.csv") then Some (codes "name\n")
    else None

missing_metadata : map (λ s. s.fault) (metadata_steps held (codes "x.json")) ≡ Some (early.CannotRead (codes "x.json")) ∷ None ∷ []
missing_metadata = refl

missing_types : map (λ s. s.fault) (metadata_steps held (codes "f/m.json") ++ opening held (codes "x.csv") ∷ []) ≡ None ∷ None ∷ Some (early.CannotRead (codes "x.csv")) ∷ []
missing_types = refl

-- A bad record keeps its place and its cells. A record past the limit has its own published fault.
abbrev bad_name : BadRecord
bad_name = (in_cell 2 (Some 1) BadName, codes "u" ∷ codes "a:b" ∷ codes "text" ∷ [])

abbrev past_limit : BadRecord
past_limit = (entry_as_whole 65537 TooMany, codes "p" ∷ [])

wrong_types : reading {A = ReportValue} source.Types None refused.BadTypes (Err bad_name)
    ≡ step (Some (early.Report source.Types (record { finding = finding refused.BadTypes []; path = None; entry = Some bad_name })))
    (of_types refused.Read ∷ of_types refused.Memory ∷ [])
wrong_types = refl

wrong_parameters : (reading {A = ReportValue} source.Parameters (Some (codes "f/p.csv")) refused.BadParameter (Err past_limit)).fault
    ≡ Some (early.Report source.Parameters (record { finding = finding refused.TooLarge []; path = Some (codes "f/p.csv"); entry = Some past_limit }))
wrong_parameters = refl

right_types : (reading {A = ℕ} source.Types None refused.BadTypes (Ok 1)).fault ≡ None
right_types = refl

-- What a reader answers of a file without a value.
refusals_of_files : map (of_refusal (Some (codes "p")) refused.BadParameter) (Bad bad_name ∷ Unread unread.Read ∷ Unread unread.Memory ∷ [])
    ≡ record { finding = finding refused.BadParameter []; path = Some (codes "p"); entry = Some bad_name }
    ∷ as_whole (Some (codes "p")) refused.Read ∷ as_whole (Some (codes "p")) refused.Memory ∷ []
refusals_of_files = refl

-- The types table is opened and read, and then the parameters file.
unread_types : map (λ s. s.refusals) (types_steps held (codes "f/types.csv"))
    ≡ (early.Memory ∷ []) ∷ (of_types refused.Read ∷ of_types refused.Memory ∷ []) ∷ []
unread_types = refl

unread_parameters : map (λ s. s.refusals) (parameters_steps held (codes "f/") (Some (codes "p.csv")))
    ≡ (early.Memory ∷ []) ∷ (early.Report source.Parameters (as_whole (Some (codes "f/p.csv")) refused.Read) ∷ early.Report source.Parameters (as_whole (Some (codes "f/p.csv")) refused.Memory) ∷ []) ∷ []
unread_parameters = refl

wrong_url : looking {A = ℕ} (Err at_the_url) ≡ step (Some (of_metadata_file at_the_url)) (of_metadata_file (finding refused.Memory []) ∷ [])
wrong_url = refl

values : map (value_or []) (Ok (codes "p") ∷ Err (of_whole refused.Syntax) ∷ []) ≡ codes "p" ∷ [] ∷ []
values = refl

no_parameters : parameters_steps held (codes "f/") None ≡ []
no_parameters = refl

missing_parameters : map (λ s. s.fault) (take 1 (parameters_steps held (codes "f/") (Some (codes "p.csv")))) ≡ Some (early.CannotRead (codes "f/p.csv")) ∷ []
missing_parameters = refl

unread_metadata : map (λ s. s.refusals) (metadata_steps held (codes "f/m.json")) ≡ (early.Memory ∷ []) ∷ (of_metadata_file (finding refused.Read []) ∷ early.Memory ∷ []) ∷ []
unread_metadata = refl

-- A run ends at the first file that is missing, or at a file that exists because memory runs out.
stops_at_the_second : Stops (opening held (codes "f/m.json") ∷ opening held (codes "x.csv") ∷ []) (early.CannotRead (codes "x.csv"))
stops_at_the_second =
    record { before = opening held (codes "f/m.json") ∷ []; here = opening held (codes "x.csv"); later = []; split = refl; passed = (refl, tt); ends = inl refl }

stops_without_memory : Stops (opening held (codes "f/m.json") ∷ opening held (codes "x.csv") ∷ []) early.Memory
stops_without_memory = record { before = []; here = opening held (codes "f/m.json"); later = opening held (codes "x.csv") ∷ []; split = refl; passed = tt; ends = inr (inl refl) }

-- THE ORDER

-- A metadata that is not UTF-8 and so not JSON, and no other file.
abbrev no_text : Files
no_text path = if bytes_eq path (codes "f/m.json") then Some (255 ∷ []) else None

abbrev no_header : BadRecord
no_header = (entry_as_whole 0 NoHeader, [])

-- The metadata is opened and read, then the types table. Then the metadata is tested, for the name
-- of the parameters file and as a whole.
faults_in_order : map (λ s. s.fault) (steps no_text (codes "f/") (codes "f/m.json") (codes "x.csv"))
    ≡ None ∷ None ∷ Some (early.CannotRead (codes "x.csv")) ∷ Some (early.Report source.Types (record { finding = finding refused.BadTypes []; path = None; entry = Some no_header }))
    ∷ Some (of_metadata_file (finding refused.Syntax [])) ∷ Some (of_metadata_file (finding refused.Syntax [])) ∷ []
unfolding records_left records_from strip_bom next_record is_utf8 chars encode
faults_in_order = refl

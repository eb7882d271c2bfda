-- The steps that read a report before its tables, in order, and the report that the files of a
-- folder give. xBRL-CSV 1.0 (the metadata, the parameters file).
use Rattle.std.specs.Prelude.{⊤, ◌≡◌, ◌⊎◌, ℕ, List, [], ◌∷◌, ◌++◌, Option, Some, None, Result, Ok, Err, unwrap_or}
use Rattle.oim_records.specs.Grids.{grid}
use Rattle.oim_report.specs.Parameters.{ParametersValue}
use Rattle.oim_entries.specs.BadEntries.{BadRecord}
use Rattle.oim_entries.specs.ParametersFile.{parameters_entries}
use Rattle.oim_report.specs.ReportValue.{ReportValue}
use Rattle.oim_report.specs.Types.{TypesValue}
use Rattle.oim_entries.specs.TypesFile.{types_entries}
use Rattle.oim_entries.specs.declared.fault.MetaFault.{MetaFault}
use Rattle.oim_entries.specs.declared.fault.MetaFault.TheVariants as refused
use Rattle.oim_files.specs.FileFaults.{of_entry, of_file, of_metadata}
use Rattle.oim_files.specs.Folders.{Files}
use Rattle.oim_meta.specs.declared.findings.Finding.{Finding}
use Rattle.oim_files.specs.Metadata.{front_within, profile, report_result, url_result}
use Rattle.oim_files.specs.declared.early_fault.EarlyFault.{EarlyFault}
use Rattle.oim_files.specs.declared.early_fault.EarlyFault.TheVariants as early
use Rattle.oim_files.specs.declared.early_fault.FileFault.{FileFault}
use Rattle.oim_files.specs.declared.early_fault.Source.{Source}
use Rattle.oim_files.specs.declared.early_fault.Source.TheVariants as source

-- THE VALUES OF THE FILES

-- The bytes of the file at a path.
abbrev pub bytes_at : Files → List ℕ → List ℕ
bytes_at files path = unwrap_or (files path) []

-- The prefix of the metadata at a path that is read.
abbrev pub front_at : Files → List ℕ → List ℕ
front_at files meta = front_within profile (bytes_at files meta)

-- The value of a file, or an empty one if it has a fault.
abbrev pub value_or : {A E : Type 0} → A → Result A E → A
value_or empty (Ok a) = a
value_or empty (Err x) = empty

-- The types table, or its first bad record.
abbrev pub types_at : Files → List ℕ → Result TypesValue BadRecord
types_at files types = types_entries (grid (bytes_at files types))

-- The URL of the parameters file, if a metadata of these bytes has one.
abbrev pub url_of : List ℕ → Result (Option (List ℕ)) Finding
url_of bytes = url_result profile bytes

-- The same for the metadata at a path.
abbrev pub url_at : Files → List ℕ → Result (Option (List ℕ)) Finding
url_at files meta = url_of (bytes_at files meta)

-- The parameters, or the first bad record of their file; empty if no file is named.
abbrev pub parameters_at : Files → List ℕ → Option (List ℕ) → Result ParametersValue BadRecord
parameters_at files base None = Ok []
parameters_at files base (Some url) = parameters_entries (grid (bytes_at files (base ++ url)))

abbrev pub parameters_of : Files → (base meta : List ℕ) → ParametersValue
parameters_of files base meta = value_or [] (parameters_at files base (value_or None (url_at files meta)))

-- The report.
abbrev pub report_at : Files → (base meta types : List ℕ) → Result ReportValue Finding
report_at files base meta types = report_result profile (parameters_of files base meta) (value_or [] (types_at files types)) (bytes_at files meta)

-- THE STEPS

-- A step: the early fault that names the fault of the files at this step, if they have one. The
-- refusals are the early faults that are possible whatever the files have, because a read may fail
-- and memory may run out.
pub record Step : Type 0 where
  pub fault : Option EarlyFault
  pub refusals : List EarlyFault

abbrev pub step : Option EarlyFault → List EarlyFault → Step
step fault refusals = record { fault = fault; refusals = refusals }

-- The file does not exist.
abbrev pub missing : List ℕ → Option (List ℕ) → Option EarlyFault
missing path None = Some (early.CannotRead path)
missing path (Some bytes) = None

-- The file of this source has a fault, of which this is known.
abbrev pub wrong : {A E : Type 0} → Source → (E → FileFault) → Result A E → Option EarlyFault
wrong s told (Ok a) = None
wrong s told (Err x) = Some (early.Report s (told x))

-- The file of this source as a whole has a fault, or was not read to its end. The path is that of a
-- parameters file.
abbrev pub whole_at : Source → Option (List ℕ) → MetaFault → EarlyFault
whole_at s path f = early.Report s (of_file path f)

abbrev pub whole : Source → MetaFault → EarlyFault
whole s f = whole_at s None f

abbrev pub opening : Files → List ℕ → Step
opening files path = step (missing path (files path)) (early.Memory ∷ [])

-- A file of entries is read. `bad` is the published fault of its bad records.
abbrev pub reading : {A : Type 0} → Source → Option (List ℕ) → MetaFault → Result A BadRecord → Step
reading s path bad answer = step (wrong s (of_entry path bad) answer) (whole_at s path refused.Read ∷ whole_at s path refused.Memory ∷ [])

-- The metadata is in memory: this step reads no file.
abbrev pub looking : {A : Type 0} → Result A Finding → Step
looking answer = step (wrong source.Report of_metadata answer) (whole source.Report refused.Memory ∷ [])

abbrev pub metadata_steps : Files → List ℕ → List Step
metadata_steps files meta = opening files meta ∷ step None (whole source.Report refused.Read ∷ early.Memory ∷ []) ∷ []

abbrev pub types_steps : Files → List ℕ → List Step
types_steps files types = opening files types ∷ reading source.Types None refused.BadTypes (types_at files types) ∷ []

abbrev pub parameters_steps : Files → List ℕ → Option (List ℕ) → List Step
parameters_steps files base None = []
parameters_steps files base (Some url) = opening files (base ++ url) ∷ reading source.Parameters (Some (base ++ url)) refused.BadParameter (parameters_at files base (Some url)) ∷ []

-- The metadata is read, then the types table. Then the parameters file's URL is looked up and that
-- file is read. Last, the report is made from the metadata.
abbrev pub steps : Files → (base meta types : List ℕ) → List Step
steps files base meta types =
    metadata_steps files meta
    ++ (types_steps files types
    ++ (looking (url_at files meta) ∷ []
    ++ (parameters_steps files base (value_or None (url_at files meta))
    ++ looking (report_at files base meta types) ∷ [])))

-- TAKING THE STEPS

abbrev pub IsAmong : EarlyFault → List EarlyFault → Type 0
IsAmong o [] = ⊥
IsAmong o (x ∷ xs) = (o ≡ x) ⊎ IsAmong o xs

-- None of the steps has a fault.
abbrev pub Passes : List Step → Type 0
Passes [] = ⊤
Passes (s ∷ later) = (s.fault ≡ None) × Passes later

-- Reading ends at a step, with its fault or one of its refusals. No step before it has a fault.
pub record Stops (steps : List Step) (o : EarlyFault) : Type 0 where
  pub before : List Step
  pub here : Step
  pub later : List Step
  pub split : steps ≡ before ++ here ∷ later
  pub passed : Passes before
  pub ends : (here.fault ≡ Some o) ⊎ IsAmong o here.refusals

-- All steps passed and the value is right, or reading ends at one of them.
abbrev pub Takes : {X : Type 0} → List Step → (X → Type 0) → Result X EarlyFault → Type 0
Takes steps right (Ok x) = Passes steps × right x
Takes steps right (Err o) = Stops steps o

-- The same, for a value that is given as a result.
abbrev pub TakesTo : {X E : Type 0} → List Step → Result X E → Result X EarlyFault → Type 0
TakesTo {X} steps answer result = Takes {X = X} steps (λ x. answer ≡ Ok x) result

-- The types of the types table, or the step at which reading it ends.
abbrev pub IsTypes : Files → List ℕ → Result TypesValue EarlyFault → Type 0
IsTypes files types result = TakesTo (types_steps files types) (types_at files types) result

-- The parameters of the parameters file, or the step at which reading it ends.
abbrev pub IsParameters : Files → List ℕ → Option (List ℕ) → Result ParametersValue EarlyFault → Type 0
IsParameters files base url result = TakesTo (parameters_steps files base url) (parameters_at files base url) result

-- The report that the files give, or the step at which reading them ends.
abbrev pub GivesReport : Files → (base meta types : List ℕ) → Result ReportValue EarlyFault → Type 0
GivesReport files base meta types result = TakesTo (steps files base meta types) (report_at files base meta types) result

-- The metadata at a path was read, and these bytes are what is read of it.
abbrev pub HasRead : Files → List ℕ → List ℕ → Type 0
HasRead files meta bytes = Passes (metadata_steps files meta) × (bytes ≡ front_at files meta)

-- The report that the files give with the metadata of these bytes, wherever it was read.
abbrev pub GivesRest : Files → (base bytes types : List ℕ) → Result ReportValue EarlyFault → Type 0
GivesRest files base bytes types result = (meta : List ℕ) → HasRead files meta bytes → GivesReport files base meta types result

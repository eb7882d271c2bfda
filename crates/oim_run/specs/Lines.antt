-- The exit status of each outcome, and its lines on standard error.
use Rattle.std.specs.Prelude.{ℕ, List, [], ◌∷◌, ◌++◌, codes}
use Rattle.std.specs.Fmt.{decimal}
use Rattle.clap.specs.declared.error.kind.ErrorKind.{ErrorKind}
use Rattle.clap.specs.declared.error.kind.ErrorKind.TheVariants as kind
use Rattle.oim_entries.specs.FaultNames.{fault_name, fault_number}
use Rattle.oim_rows.specs.FaultNames as table_fault
use Rattle.oim_convert.specs.FaultNames as convert_fault
use Rattle.oim_places.specs.Shown.{shown}
use Rattle.oim_rows.specs.declared.fault.TableFault.{TableFault}
use Rattle.oim_run.specs.declared.outcome.Outcome.{Outcome}
use Rattle.oim_run.specs.declared.outcome.Outcome.TheVariants as outcome
use Rattle.oim_files.specs.declared.early_fault.Source.{Source}
use Rattle.oim_files.specs.declared.early_fault.Source.TheVariants as source

abbrev pub status_of : Outcome → ℕ
status_of outcome.Done = 0
status_of (outcome.Report s x) = 1
status_of (outcome.Tables named) = 1
status_of (outcome.CannotRead path) = 3
status_of (outcome.CannotWrite path) = 3
status_of (outcome.Run f) = 3
status_of (outcome.Output f) = 3

-- The exit status for arguments that the definition of the command line refuses with this kind.
-- Help and the version are not failures.
abbrev pub words_status : ErrorKind → ℕ
words_status kind.DisplayHelp = 0
words_status kind.DisplayVersion = 0
words_status kind.OutOfMemory = 3
words_status _ = 2

-- The exit status if the text for the arguments cannot be printed: then help and the version are
-- failures.
abbrev pub unprinted_status : ErrorKind → ℕ
unprinted_status kind.DisplayHelp = 3
unprinted_status kind.DisplayVersion = 3
unprinted_status k = words_status k

abbrev pub source_name : Source → List ℕ
source_name source.Report = codes "report"
source_name source.Parameters = codes "parameters"
source_name source.Types = codes "types"

-- The line for a fault at a named place.
abbrev pub fault_text : List ℕ → List ℕ → ℕ → List ℕ
fault_text place name number =
    codes "xbrl-json: " ++ (place ++ (codes ": " ++ (name ++ (codes " (" ++ (decimal number ++ 41 ∷ 10 ∷ [])))))

abbrev pub table_text : List ℕ → TableFault → List ℕ
table_text id f =
    fault_text (codes "table " ++ (id ++ (codes ", row " ++ (decimal f.row ++ (codes ", column " ++ decimal f.column)))))
    (table_fault.name_of f.kind) (table_fault.number_of f.kind)

-- The lines for refused tables, in order.
abbrev pub tables_text : List (List ℕ × TableFault) → List ℕ
tables_text [] = []
tables_text (named ∷ more) = table_text named.0 named.1 ++ tables_text more

-- The line for a file that cannot be read or written.
abbrev pub path_text : List ℕ → List ℕ → List ℕ
path_text what path = codes "xbrl-json: cannot " ++ (what ++ (codes " " ++ (path ++ 10 ∷ [])))

-- The lines for an outcome: none for a whole document, and one for each refused table.
abbrev pub line_of : Outcome → List ℕ
line_of outcome.Done = []
line_of (outcome.Report s x) = fault_text (source_name s) (fault_name x.finding.fault) (fault_number x.finding.fault)
line_of (outcome.Tables named) = tables_text named
line_of (outcome.CannotRead path) = path_text (codes "read") path
line_of (outcome.CannotWrite path) = path_text (codes "write") path
line_of (outcome.Run f) = fault_text (codes "run") (convert_fault.name_of f) (convert_fault.number_of f)
line_of (outcome.Output f) = codes "xbrl-json: output: Write (56)" ++ 10 ∷ []

-- On a terminal.

-- The lines for an outcome, with the control characters of a path escaped.
abbrev pub terminal_line_of : Outcome → List ℕ
terminal_line_of (outcome.CannotRead path) = path_text (codes "read") (shown path)
terminal_line_of (outcome.CannotWrite path) = path_text (codes "write") (shown path)
terminal_line_of o = line_of o

-- The answer to a call over files in memory.
use Rattle.std.specs.Prelude.{◌≡◌, ◌⊎◌, ℕ, ◌==◌, if◌then◌else◌, List, [], ◌∷◌, Option, Some, None, IsUtf8}
use Rattle.std.specs.Str.{bytes_eq}
use Rattle.oim_files.specs.Folders.{Files}
use Rattle.oim_json.specs.Sinks.{SinkView}
use Rattle.oim_json.specs.declared.layout.Layout.{Layout}
use Rattle.oim_json.specs.declared.layout.Layout.TheVariants as layout
use Rattle.oim_json.specs.declared.mark.Mark.TheVariants as «marks»
use Rattle.oim_run.specs.Lines.{status_of}
use Rattle.oim_run.specs.Runs.{EndsOver}
use Rattle.oim_run.specs.declared.outcome.Outcome.{Outcome}
use Rattle.xbrl_json_c.specs.declared.answer.CallAnswer.{CallAnswer}
use Rattle.xbrl_json_c.specs.declared.files.File.{File}

-- The files that were handed over, as a folder. The first of two files with one path counts.
abbrev pub files_at : List File → Files
files_at [] path = None
files_at (f ∷ rest) path = if bytes_eq f.path.now path then Some f.bytes.now else files_at rest path

-- The layout of a number.
abbrev pub layout_at : ℕ → Option Layout
layout_at number =
    if number == 0 then Some layout.Compact
    else if number == 1 then Some layout.Lines else None

-- A run over these files with one worker and a ring of one block ends with this outcome, and writes
-- this document to a sink that was empty.
pub record Runs (files : Files) (meta types : List ℕ) (layout : Layout) (o : Outcome) (document : List ℕ) : Type 0 where
  pub before : SinkView
  pub after : SinkView
  pub fine : before.mark ≡ «marks».Fine
  pub empty : before.told ≡ Some []
  pub ends : EndsOver files meta types 1 1 layout before after o
  pub written : after.told ≡ Some document

-- The answer has the exit status and the document of such a run.
pub record Gives (files : Files) (meta types : List ℕ) (layout : Layout) (a : CallAnswer) : Type 0 where
  pub ran : Outcome
  pub run : Runs files meta types layout ran a.document.now
  pub exit : a.status ≡ status_of ran

-- The answer has no text.
abbrev pub IsEmpty : CallAnswer → Type 0
IsEmpty a = (a.document.now ≡ []) × (a.lines.now ≡ []) × (a.faults.now ≡ [])

-- A path is not UTF-8, or the number is that of no layout.
abbrev pub IsWrong : (meta types : List ℕ) → ℕ → Type 0
IsWrong meta types number = (¬ IsUtf8 meta) ⊎ (¬ IsUtf8 types) ⊎ (layout_at number ≡ None)

-- The paths are UTF-8, and the number is that of this layout.
abbrev pub IsRight : (meta types : List ℕ) → ℕ → Layout → Type 0
IsRight meta types number layout = IsUtf8 meta × IsUtf8 types × (layout_at number ≡ Some layout)

-- The answer to a call: status 2 and no text if the call is wrong, and else what a run gives.
abbrev pub Answers : Files → (meta types : List ℕ) → (number : ℕ) → CallAnswer → Type 0
Answers files meta types number a = (IsWrong meta types number × (a.status ≡ 2) × IsEmpty a)
    ⊎ ((layout : Layout) × IsRight meta types number layout × Gives files meta types layout a)

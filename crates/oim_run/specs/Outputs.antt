-- The output of a document, what is done with it, which outcome its run has, and what is printed.
use Rattle.std.specs.Prelude.{◌≡◌, ◌⊎◌, ◌≤◌, Bool, true, false, ℕ, List, [], ◌∷◌, ◌++◌, Option, Some, None, IfSome}
use Rattle.oim_files.specs.Folders.{Files}
use Rattle.oim_run.specs.Buffers.{Buffered, flushed}
use Rattle.oim_run.specs.CommandLine.{IsInput}
use Rattle.oim_run.specs.Early.{no_memory}
use Rattle.oim_run.specs.Lines.{line_of, status_of, terminal_line_of}
use Rattle.oim_run.specs.Outcomes.{Leaves}
use Rattle.oim_run.specs.Runs.{EndsOver, range_fault}
use Rattle.oim_run.specs.declared.run_end.RunEnd.{RunEnd}
use Rattle.oim_run.specs.declared.run_end.RunEnd.TheVariants as ending
use Rattle.oim_run.specs.declared.outcome.Outcome.{Outcome}
use Rattle.oim_run.specs.declared.outcome.Outcome.TheVariants as outcome
use Rattle.oim_run.specs.declared.request.Request.{Request}
use Rattle.oim_run.specs.declared.settings.Settings.{Settings}

-- Outputs.

-- A deed: an output is opened, standard output or the file at a path, and its writer then holds
-- these bytes, or it cannot be opened; or the output whose writer holds these bytes is ended, after
-- a run with this outcome, and ends so.
pub data Deed : Type 0 where
  Opened : (path : Option (List ℕ)) → (holds : Option (Option (List ℕ))) → Deed
  Ended : (holds : Option (List ℕ)) → (ran : Outcome) → (how : RunEnd) → Deed

-- These deeds, and no others, were done in this order, if the outputs keep a record.
abbrev pub Did : (before : Option (List Deed)) → List Deed → (after : Option (List Deed)) → Type 0
Did before deeds after = IfSome before (λ earlier. after ≡ Some (earlier ++ deeds))

-- The outcome to report.

-- The file at the path cannot be written, or memory ran out for the path.
abbrev pub IsUnwritten : List ℕ → Outcome → Type 0
IsUnwritten path o = (o ≡ outcome.CannotWrite path) ⊎ (o ≡ no_memory)

-- The same for the path of an option; if it is not given, the outcome is the run's own.
abbrev pub IsUnwrittenAt : Option (List ℕ) → (ran o : Outcome) → Type 0
IsUnwrittenAt None ran o = o ≡ ran
IsUnwrittenAt (Some path) ran o = IsUnwritten path o

-- The outcome to report of a run, by the end of its output: its own; a failed write, if there was a
-- document; or that a file cannot be written.
abbrev pub IsToldBy : (out faults counts : Option (List ℕ)) → RunEnd → (ran o : Outcome) → Type 0
IsToldBy out faults counts ending.Kept ran o = o ≡ ran
IsToldBy out faults counts ending.NotKept ran o = o ≡ flushed ran
IsToldBy out faults counts ending.IsRead ran o = IsUnwrittenAt out ran o
IsToldBy out faults counts ending.FaultsAreRead ran o = IsUnwrittenAt faults ran o
IsToldBy out faults counts ending.CountsAreRead ran o = IsUnwrittenAt counts ran o

-- One run to one output.

-- A run over a folder with these settings, to a writer that held `old` and holds `new`: as the
-- folder's files define, if contracts see them.
abbrev pub RunsTo : Option Files → Settings → (old new : Option (List ℕ)) → Outcome → Type 0
RunsTo told s old new o =
    IfSome told (λ files. Buffered (EndsOver files s.meta s.types s.workers s.ring s.layout) old new o)
    × Buffered (Leaves s.workers (range_fault s.workers s.ring)) old new o

-- One output is opened, standard output or the file at the path, one run is made to it, and it is
-- ended. Nothing else is done with any output.
pub record RunsOnce (runs : (old new : Option (List ℕ)) → Outcome → Type 0) (out faults counts path : Option (List ℕ)) (before after : Option (List Deed)) (o : Outcome) : Type 0 where
  pub first : Option (List ℕ)
  pub last : Option (List ℕ)
  pub ran : Outcome
  pub how : RunEnd
  pub run : runs first last ran
  pub done : Did before (Opened path (Some first) ∷ Ended last ran how ∷ []) after
  pub told : IsToldBy out faults counts how ran o

-- Nothing is done for a path that is an input's. For any other, a run is made to its file, or the
-- file cannot be opened.
abbrev pub IntoFile : Option Files → Request → List ℕ → (before after : Option (List Deed)) → Outcome → Type 0
IntoFile told q path before after o = (IsInput q.settings path × (after ≡ before) × IsUnwritten path o)
    ⊎ ((¬ IsInput q.settings path) × Did before (Opened (Some path) None ∷ []) after × IsUnwritten path o)
    ⊎ ((¬ IsInput q.settings path) × RunsOnce (RunsTo told q.settings) q.settings.out q.faults q.counts (Some path) before after o)

-- The requested conversion: exactly one run is made, to the output of `--out`, and its outcome is
-- to be reported; or no run is made, and that is to be reported.
abbrev pub IntoOutput : Option Files → Request → Option (List ℕ) → (before after : Option (List Deed)) → Outcome → Type 0
IntoOutput told q None before after o = RunsOnce (RunsTo told q.settings) q.settings.out q.faults q.counts None before after o
IntoOutput told q (Some path) before after o = IntoFile told q path before after o

abbrev pub EndsFor : Option Files → Request → (before after : Option (List Deed)) → Outcome → Type 0
EndsFor told q before after o = IntoOutput told q q.settings.out before after o

-- The files of the faults and of the counts.

-- The file of `--faults` is to be written after a run that ended with the exit status 0 or 1, and
-- cannot be written.
abbrev pub IsLeftUnwritten : Option (List ℕ) → Outcome → Outcome → Type 0
IsLeftUnwritten None ended o = ⊥
IsLeftUnwritten (Some path) ended o = (status_of ended ≤ 1) × IsUnwritten path o

-- The file of `--counts` is to be written after a run that ended with the exit status 0, and cannot
-- be written.
abbrev pub IsLeftUncounted : Option (List ℕ) → Outcome → Outcome → Type 0
IsLeftUncounted None ended o = ⊥
IsLeftUncounted (Some path) ended o = (status_of ended ≡ 0) × IsUnwritten path o

-- One of these two files is to be written, and cannot be.
abbrev pub IsLeftOut : (faults counts : Option (List ℕ)) → Outcome → Outcome → Type 0
IsLeftOut faults counts ended o = IsLeftUnwritten faults ended o ⊎ IsLeftUncounted counts ended o

-- Printing for people.

-- The texts that were printed, in order.
abbrev pub Said : Type 0
Said = List (List ℕ)

-- Whether the printer is a terminal, unless contracts do not see that.
abbrev pub IsTerminal : Option Bool → Bool → Type 0
IsTerminal terminal is = IfSome terminal (λ it. is ≡ it)

-- The lines of an outcome were printed once, as one text, in the terminal's form or the plain one;
-- or nothing was printed, for which the clause names no condition.
abbrev pub Says : Option Bool → Outcome → (before after : Option Said) → Type 0
Says terminal o before after = IfSome before (λ earlier. (after ≡ Some earlier)
    ⊎ (IsTerminal terminal false × (after ≡ Some (earlier ++ line_of o ∷ [])))
    ⊎ (IsTerminal terminal true × (after ≡ Some (earlier ++ terminal_line_of o ∷ []))))

-- The text printed after the lines of a run, and the exit status: none, and the status is that of
-- the run's outcome; or that the file of the faults or of the counts cannot be written, and the
-- status is that of this.
abbrev pub SaysLast : Option Bool → (faults counts : Option (List ℕ)) → Outcome → (before after : Option Said) → (status : ℕ) → Type 0
SaysLast terminal faults counts ended before after status =
    ((after ≡ before) × (status ≡ status_of ended))
    ⊎ ((last : Outcome) × IsLeftOut faults counts ended last × Says terminal last before after × (status ≡ status_of last))

-- A program with this request ends with this status: the requested conversion is made, once or not
-- at all, and its outcome is printed at most once.
pub record EndsTold (told : Option Files) (q : Request) (before after : Option (List Deed)) (terminal : Option Bool) (silent said : Option Said) (status : ℕ) : Type 0 where
  pub ended : Outcome
  pub once : EndsFor told q before after ended
  pub between : Option Said
  pub says : Says terminal ended silent between
  pub last : SaysLast terminal q.faults q.counts ended between said status

-- A run is made to a writer that held `old` and holds `new`, its outcome is printed at most once,
-- and this is the exit status.
pub record RunsTold (runs : (old new : Option (List ℕ)) → Outcome → Type 0) (old new : Option (List ℕ)) (terminal : Option Bool) (silent said : Option Said) (status : ℕ) : Type 0 where
  pub ran : Outcome
  pub run : runs old new ran
  pub says : Says terminal ran silent said
  pub exit : status ≡ status_of ran

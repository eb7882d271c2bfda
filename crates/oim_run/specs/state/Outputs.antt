-- The use of an output that is open already.
use Rattle.std.specs.Prelude.{ℕ, List, [], ◌∷◌, Option}
use Rattle.oim_files.specs.Folders.{Files}
use Rattle.oim_run.specs.declared.run_end.RunEnd.{RunEnd}
use Rattle.oim_run.specs.declared.outcome.Outcome.{Outcome}
use Rattle.oim_run.specs.Outputs.{Deed, Did, Ended, IsToldBy, RunsTo}
use Rattle.oim_run.specs.declared.request.Request.{Request}

-- A run over a folder was made for this request, to the open output whose writer held `first`. That
-- output was ended, with the bytes that its writer held then, and nothing else was done with any.
-- The outcome to report is the run's, by the end of the output.
pub record RunsInto (known : Option Files) (q : Request) (first : Option (List ℕ)) (before after : Option (List Deed)) (o : Outcome) : Type 0 where
  pub last : Option (List ℕ)
  pub ran : Outcome
  pub how : RunEnd
  pub run : RunsTo known q.settings first last ran
  pub done : Did before (Ended last ran how ∷ []) after
  pub told : IsToldBy q.settings.out q.faults q.counts how ran o

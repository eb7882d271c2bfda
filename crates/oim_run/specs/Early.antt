-- The end of a run whose files give no report: the outcome that has their early fault.
use Rattle.std.specs.Prelude.{◌≡◌, List}
use Rattle.oim_convert.specs.declared.fault.ConvertFault.TheVariants as fault
use Rattle.oim_files.specs.Steps.{Step, Stops}
use Rattle.oim_files.specs.declared.early_fault.EarlyFault.{EarlyFault}
use Rattle.oim_files.specs.declared.early_fault.EarlyFault.TheVariants as early
use Rattle.oim_run.specs.declared.outcome.Outcome.{Outcome}
use Rattle.oim_run.specs.declared.outcome.Outcome.TheVariants as outcome

abbrev pub no_memory : Outcome
no_memory = outcome.Run fault.Memory

abbrev pub outcome_of : EarlyFault → Outcome
outcome_of (early.Report s x) = outcome.Report s x
outcome_of (early.CannotRead path) = outcome.CannotRead path
outcome_of early.Memory = no_memory

-- The run ends at one of these steps.
pub record EndsAt (steps : List Step) (o : Outcome) : Type 0 where
  pub fault : EarlyFault
  pub stops : Stops steps fault
  pub told : o ≡ outcome_of fault

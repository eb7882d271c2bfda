-- The names of refused tables and the outcomes of answers, on worked cases.
use Rattle.std.specs.Prelude.{◌≡◌, ◌∷◌, [], ℕ, List, Ok, Err, codes, map, if◌then◌else◌}
use Rattle.std.proofs.Common.{ap, ◌∙◌, refl}
use Rattle.oim_convert.specs.declared.fault.ConvertFault.TheVariants as fault
use Rattle.oim_convert.specs.declared.run.Run.{Run}
use Rattle.oim_json.specs.declared.mark.WriteFault.TheVariants as write
use Rattle.oim_merge.specs.declared.progress.MergeEnd.TheVariants as end
use Rattle.oim_resolve.specs.declared.fact.CellFault.TheVariants as cell
use Rattle.oim_rows.specs.Header.{fault_at}
use Rattle.oim_rows.specs.declared.fault.TableFault.{TableFault}
use Rattle.oim_rows.specs.declared.fault.TableKind.TheVariants as table
use Rattle.oim_run.specs.state.Naming.{outcome_at, outcome_by, with_names}
use Rattle.oim_run.specs.declared.outcome.Outcome.TheVariants as outcome

-- Names.
abbrev names : List (List ℕ)
names = codes "a" ∷ codes "b" ∷ codes "c" ∷ []

abbrev no_file : ℕ → TableFault
no_file i = fault_at i 0 0 table.NoFile

abbrev bad_number : TableFault
bad_number = fault_at 1 2 1 (table.Cell cell.BadNumber)

-- Each fault has the name of its own table, whatever the order.
names_by_place : with_names names (no_file 2 ∷ bad_number ∷ []) ≡ (codes "c", no_file 2) ∷ (codes "b", bad_number) ∷ []
names_by_place = refl

-- A name is used once, and there is no name past the last.
names_given_once : with_names names (no_file 0 ∷ no_file 0 ∷ no_file 3 ∷ []) ≡ (codes "a", no_file 0) ∷ ([], no_file 0) ∷ ([], no_file 3) ∷ []
names_given_once = refl

-- Outcomes.
failed_write : outcome_at names (no_file 0 ∷ []) (end.Write write.Zero) ≡ outcome.Output write.Zero
failed_write = refl

another_failed_write : outcome_at names [] (end.Write write.Failed) ≡ outcome.Output write.Failed
another_failed_write = refl

two_tables_refused : outcome_at names (bad_number ∷ no_file 2 ∷ []) end.Refused ≡ outcome.Tables ((codes "b", bad_number) ∷ (codes "c", no_file 2) ∷ [])
two_tables_refused = refl

module _ (run : Run) where
  ran_to_the_end : run.end ≡ end.Complete → outcome_by names (Ok run) ≡ outcome.Done
  ran_to_the_end is = ap (λ e. outcome_at names run.faults.items e) is

  one_table_refused : run.faults.items ≡ bad_number ∷ [] → run.end ≡ end.Refused → outcome_by names (Ok run) ≡ outcome.Tables ((codes "b", bad_number) ∷ [])
  one_table_refused faults is = ap (λ fs. outcome_at names fs run.end) faults ∙ ap (λ e. outcome_at names (bad_number ∷ []) e) is

did_not_run : map (λ f. outcome_by names (Err f)) (fault.BadWorkers ∷ fault.BadSize ∷ fault.WrongReaders ∷ fault.Memory ∷ fault.Lost ∷ [])
    ≡ outcome.Run fault.BadWorkers ∷ outcome.Run fault.BadSize ∷ outcome.Run fault.WrongReaders ∷ outcome.Run fault.Memory ∷ outcome.Run fault.Lost ∷ []
did_not_run = refl

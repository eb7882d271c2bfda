-- The first two steps of a cell settle its result whatever memory is left.
use Rattle.std.proofs.Common.{◌≡◌, ◌+◌, ℕ, Bool, true, false, ◌++◌, Option, Some, None, Result, Ok, Err, ap, subst, sym, option_map, IfSome}
use Rattle.std.specs.Prelude.{if◌then◌else◌}
use Rattle.std.specs.Option.{option_or}
use Rattle.oim_report.specs.Readers.{columns_of}
use Rattle.oim_report.specs.ReportValue.{ReportValue}
use Rattle.oim_resolve.specs.Cell.{Cell, cell_of}
use Rattle.oim_resolve.specs.Facts.{early_result, is_absent, fact_meaning, cell_and_group_faults, concept_faults}
use Rattle.oim_resolve.specs.Faults.{fault_if, least}
use Rattle.oim_resolve.specs.FactParts.{FactParts as Fact}
use Rattle.oim_resolve.specs.declared.fact.CellFault.{CellFault}
use Rattle.oim_resolve.specs.declared.fact.CellFault.TheVariants.{UnknownSpecial, UnknownGroup, NoConcept, UnknownName, BadReference, Memory}
use Rattle.oim_resolve.specs.declared.fact.Row.{Row}
use Rattle.oim_rows.specs.RowFacts.{at_place, is_fact_column}
use Rattle.oim_rows.specs.state.RowFacts.{early_fact_at}
use Rattle.oim_rows.specs.declared.fault.TableFault.{TableFault}

first_step : (a b : Bool) → least (fault_if UnknownSpecial a ++ fault_if UnknownGroup b) ≡ Some Memory → ⊥
first_step true true e = cc e
first_step true false e = cc e
first_step false true e = cc e
first_step false false e = cc e

second_step : (a b c d : Bool) → least (fault_if UnknownSpecial a ++ fault_if NoConcept b ++ fault_if BadReference c ++ fault_if UnknownName d) ≡ Some Memory → ⊥
second_step true true true true e = cc e
second_step true true true false e = cc e
second_step true true false true e = cc e
second_step true true false false e = cc e
second_step true false true true e = cc e
second_step true false true false e = cc e
second_step true false false true e = cc e
second_step true false false false e = cc e
second_step false true true true e = cc e
second_step false true true false e = cc e
second_step false true false true e = cc e
second_step false true false false e = cc e
second_step false false true true e = cc e
second_step false false true false e = cc e
second_step false false false true e = cc e
second_step false false false false e = cc e

no_memory : (a : Bool) (x y : Option CellFault) → (x ≡ Some Memory → ⊥) → (y ≡ Some Memory → ⊥)
    → ◌≡◌ {A = Option (Result (Option Fact) CellFault)} (if a then Some (Ok None) else option_map Err (option_or x y)) (Some (Err Memory)) → ⊥
no_memory true x y first second e = cc e
no_memory false (Some f) y first second e = first (cc e)
no_memory false None (Some f) first second e = second (cc e)
no_memory false None None first second e = cc e

-- A cell does not run out of memory in its first two steps.
never_early : (c : Cell) → early_result c ≡ Some (Err Memory) → ⊥
unfolding early_result
never_early c e =
    no_memory (is_absent (fact_meaning c)) (least (cell_and_group_faults c)) (least (concept_faults c)) (first_step _ _) (second_step _ _ _ _) e

not_settled : (table n p : ℕ) (o : Option (Result (Option Fact) CellFault)) (x : Result (Option Fact) TableFault) → (o ≡ Some (Err Memory) → ⊥) → IfSome o (λ a. Err Memory ≡ a)
    → IfSome (option_map (at_place table n p) o) (λ a. x ≡ a)
not_settled table n p None x never h = tt
not_settled table n p (Some a) x never h = absurd (never (ap Some (sym h)))

-- If memory ran out, they settle nothing.
refused_late : (table n p : ℕ) (c : Cell) (x : Result (Option Fact) TableFault) → IfSome (early_result c) (λ a. Err Memory ≡ a)
    → IfSome (option_map (at_place table n p) (early_result c)) (λ a. x ≡ a)
refused_late table n p c x h = not_settled table n p (early_result c) x (never_early c) h

-- The same for the cell under a header cell.
pub refused_at : (report : ReportValue) (table : ℕ) (row : Row) (p : ℕ) (o : Option ℕ) (c : ℕ) (x : Result (Option Fact) TableFault) → o ≡ Some c → is_fact_column (columns_of report table) c ≡ true
    → IfSome (early_result (cell_of report table row c)) (λ a. Err Memory ≡ a) → IfSome (early_fact_at report table row p o) (λ a. x ≡ a)
refused_at report table row p o c x is fact h =
    subst (λ (q : Option ℕ). IfSome (early_fact_at report table row p q) (λ a. x ≡ a)) (sym is)
    (rw fact (refused_late table row.number (p + 1) (cell_of report table row c) x h))

use Rattle.std.proofs.Common.{Ok, Err, inl, inr, sym, ap, ◌∙◌}
use Rattle.oim_resolve.specs.Facts.{as_result, concept_faults, concept_kind, is_absent}
use Rattle.oim_resolve.specs.Faults.{least}
use Rattle.oim_resolve.specs.state.ProgramCell.{cell_at}
use Rattle.oim_resolve.proofs.Outcomes.{absent_cell, early_absent, early_first, early_second, first_fault, last_step, no_early, read_fault, read_none, read_value, second_fault}
use Rattle.oim_resolve.proofs.cell.fact_at.Goals as goal

pub returns-then-is_absent : goal.returns-then-is_absent
returns-then-is_absent c =
    let cell = cell_at c.args.place in
    let absent = sym (c.is_absent.ensures ∙ ap is_absent c.fact_meaning-meaning.ensures) ∙ c.if-is_absent.true in
    record { early = early_absent cell absent; result = inr (absent_cell cell absent) }

pub returns-in-Some : goal.returns-in-Some
returns-in-Some c =
    let cell = cell_at c.args.place in
    let here = sym (c.is_absent.ensures ∙ ap is_absent c.fact_meaning-meaning.ensures) ∙ c.if-is_absent.false in
    record { early = early_first cell c.in-Some.fault here c.in-Some.ensures; result = inr (first_fault cell c.in-Some.fault here c.in-Some.ensures) }

pub returns-in-Err : goal.returns-in-Err
returns-in-Err c =
    let cell = cell_at c.args.place in
    let here = sym (c.is_absent.ensures ∙ ap is_absent c.fact_meaning-meaning.ensures) ∙ c.if-is_absent.false in
    let second = read_fault (least (concept_faults cell)) (concept_kind cell) c.in-Err.fault c.in-Err.ensures in
    record { early = early_second cell c.in-Err.fault here c.in_default.ensures second; result = inr (second_fault cell c.in-Err.fault here c.in_default.ensures second) }

pub fact_of-requires-clause-kind : goal.fact_of-requires-clause-kind
fact_of-requires-clause-kind c =
    let cell = cell_at c.args.place in
    read_value (least (concept_faults cell)) (concept_kind cell) c.in-Ok.kind c.in-Ok.ensures

pub returns-in-Ok-fact_of : goal.returns-in-Ok-fact_of
returns-in-Ok-fact_of c =
    let cell = cell_at c.args.place in
    let here = sym (c.is_absent.ensures ∙ ap is_absent c.fact_meaning-meaning.ensures) ∙ c.if-is_absent.false in
    let second = read_none (least (concept_faults cell)) (concept_kind cell) c.in-Ok.kind c.in-Ok.ensures in
    record {
      early = no_early cell here c.in_default.ensures second _;
      result = elim c.in-Ok-fact_of.ensures [
        | inl e ↦ cc e
        | inr e ↦ inr (last_step cell here c.in_default.ensures second (Ok c.in-Ok-fact_of.fact) e)
      ];
    }

pub returns-in-Err-fact_of : goal.returns-in-Err-fact_of
returns-in-Err-fact_of c =
    let cell = cell_at c.args.place in
    let here = sym (c.is_absent.ensures ∙ ap is_absent c.fact_meaning-meaning.ensures) ∙ c.if-is_absent.false in
    let second = read_none (least (concept_faults cell)) (concept_kind cell) c.in-Ok.kind c.in-Ok.ensures in
    record {
      early = no_early cell here c.in_default.ensures second _;
      result = elim c.in-Err-fact_of.ensures [
        | inl e ↦ inl (ap as_result e)
        | inr e ↦ inr (last_step cell here c.in_default.ensures second (Err c.in-Err-fact_of.fault) e)
      ];
    }

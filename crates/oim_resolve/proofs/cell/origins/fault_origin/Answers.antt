use Rattle.std.proofs.Common.{◌≡◌, Option, Some, None, IfOk, codes, refl, subst, sym}
use Rattle.std.specs.Option.{option_map}
use Rattle.oim_resolve.specs.Facts.{concept_kind}
use Rattle.oim_resolve.specs.Origins.{Dimension, GroupCell, Origin, OwnCell}
use Rattle.oim_resolve.specs.ProgramOrigins.{seen_cell, seen_origin}
use Rattle.oim_resolve.proofs.Found.{found_of}
use Rattle.oim_resolve.proofs.Readings.{is_origin, no_origin}
use Rattle.oim_resolve.proofs.Steps.{at_step}
use Rattle.oim_resolve.proofs.cell.origins.fault_origin.Goals as goal

pub returns-in-Some-clause-origin : goal.returns-in-Some-clause-origin
returns-in-Some-clause-origin c =
    let own = no_origin c.args.fault _ OwnCell c.is_fault.result c.own_fault.result c.is_fault.ensures c.own_fault.ensures c.if-is_fault.false in
    at_step c.args.fault (seen_cell c.args.cell) (concept_kind (seen_cell c.args.cell)) None (Some (GroupCell c.in-Some.place)) _ _ refl (sym own) c.in-Some.ensures refl refl

pub returns-then-is_fault-2-clause-origin : goal.returns-then-is_fault-2-clause-origin
returns-then-is_fault-2-clause-origin c =
    let own = no_origin c.args.fault _ OwnCell c.is_fault.result c.own_fault.result c.is_fault.ensures c.own_fault.ensures c.if-is_fault.false in
    let concept = is_origin c.args.fault _ (Dimension (codes "concept")) c.is_fault-2.result c.concept_of-kind.result.1 c.is_fault-2.ensures c.concept_of-kind.ensures.fault c.if-is_fault-2.true in
    at_step c.args.fault (seen_cell c.args.cell) (concept_kind (seen_cell c.args.cell)) None None (Some (Dimension (codes "concept"))) _ refl (sym own) c.in_default.ensures (sym concept) refl

pub returns-clause-origin : goal.returns-clause-origin
returns-clause-origin c =
    let own = no_origin c.args.fault _ OwnCell c.is_fault.result c.own_fault.result c.is_fault.ensures c.own_fault.ensures c.if-is_fault.false in
    let concept = no_origin c.args.fault _ (Dimension (codes "concept")) c.is_fault-2.result c.concept_of-kind.result.1 c.is_fault-2.ensures c.concept_of-kind.ensures.fault c.if-is_fault-2.false in
    subst (λ (t : Option Origin). IfOk c.rest_origin.result (λ o. option_map seen_origin o ≡ t))
    (at_step c.args.fault (seen_cell c.args.cell) c.concept_of-kind.result.0 None None None _ c.concept_of-kind.ensures.kind (sym own) c.in_default.ensures (sym concept) refl) c.rest_origin.ensures

pub returns-clause-found : goal.returns-clause-found
returns-clause-found c = found_of (seen_cell c.args.cell) c.args.fault c.rest_origin.result (returns-clause-origin c)

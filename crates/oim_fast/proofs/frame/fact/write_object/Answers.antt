use Rattle.std.proofs.Common.{arith}
use Rattle.oim_fast.proofs.FactTextLaws.{body_before, end_fits, object_written, runs_fit, runs_there, runs_within_references}
use Rattle.oim_text.proofs.PlacedBytes.{Placed-stays, Stays-then}
use Rattle.oim_fast.proofs.frame.fact.write_object.Goals as goal

pub write_runs-requires-clause-runs : goal.write_runs-requires-clause-runs
write_runs-requires-clause-runs c = rw c.as_slice.ensures.value (runs_there c.frame.invariant.laid c.frame.view_is c.in_ok-at.ensures)

pub write_runs-requires-clause-references : goal.write_runs-requires-clause-references
write_runs-requires-clause-references c = rw c.as_slice.ensures.value (runs_within_references c.frame.invariant.laid c.frame.view_is c.in_ok-at.ensures _ c.requires.references.dimensions)

pub write_runs-requires-clause-memory : goal.write_runs-requires-clause-memory
write_runs-requires-clause-memory c = rw c.as_slice.ensures.value (runs_fit c.frame.invariant.laid c.frame.view_is c.in_ok-at.ensures c.args.most c.args.value.now.len c.requires.memory)

pub returns-in_err-end-clause-object : goal.returns-in_err-end-clause-object
returns-in_err-end-clause-object c =
    let so = c.in_ok-at.ensures.bytes in
    rw c.from_residual-in_err-end.ensures (Stays-then (omega (arith, so.moved)) (Placed-stays (omega (arith, c.requires.memory)) so) c.in_err-end.ensures)

pub close_dimensions-at-requires-clause-order : goal.close_dimensions-at-requires-clause-order
close_dimensions-at-requires-clause-order c =
    let runs = rw c.as_slice.ensures.value at c.in_ok-end.ensures in
    body_before c.frame.invariant.laid c.frame.view_is c.in_ok-at.ensures runs

pub close_dimensions-at-requires-clause-memory : goal.close_dimensions-at-requires-clause-memory
close_dimensions-at-requires-clause-memory c =
    let runs = rw c.as_slice.ensures.value at c.in_ok-end.ensures in
    let fits = end_fits c.frame.invariant.laid c.frame.view_is c.in_ok-at.ensures runs c.args.value.now.len c.requires.memory in
    omega (arith, fits)

pub write_value-requires-clause-memory : goal.write_value-requires-clause-memory
write_value-requires-clause-memory c =
    let runs = rw c.as_slice.ensures.value at c.in_ok-end.ensures in
    let fits = end_fits c.frame.invariant.laid c.frame.view_is c.in_ok-at.ensures runs c.args.value.now.len c.requires.memory in
    let before = body_before c.frame.invariant.laid c.frame.view_is c.in_ok-at.ensures runs in
    omega (arith, fits, before, c.close_dimensions-at.ensures.moved, c.close_dimensions-at.ensures.len)

pub returns-clause-object : goal.returns-clause-object
returns-clause-object c =
    let runs = rw c.as_slice.ensures.value at c.in_ok-end.ensures in
    object_written c.frame.invariant.laid c.frame.view_is c.in_ok-at.ensures runs (omega (arith, c.requires.memory)) c.close_dimensions-at.ensures c.write_value.ensures.bytes

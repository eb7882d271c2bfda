use Rattle.std.proofs.Common.{drop, subst, Some}
use Rattle.csv.specs.declared.parser.State.TheVariants as state
use Rattle.oim_records.specs.Grids.{records_left}
use Rattle.oim_records.specs.Reads.{StartsFile}
use Rattle.oim_decode.proofs.HeadLaws.{head_faults, head_fines, head_forms, marked_records}
use Rattle.oim_decode.proofs.piece.first_records.FirstRecords.header.Goals as goal

-- The records that are left in the reader at its start.
pub returns-clause-value : goal.returns-clause-value
returns-clause-value c =
    let starts = subst (λ t. StartsFile (Some t) c.in-Ok.records.left) c.as_slice.ensures.value c.in-Ok.ensures in
    let all = marked_records c.self.inside.marked.items c.in-Ok.records.left c.self.invariant.0 starts in
    rw (← c.self.view_is)
    (head_forms c.args.report.now c.args.table c.args.limit (records_left state.StartRecord (drop 3 c.self.inside.marked.items)) c.in-Ok.records.left c.read.new.records.left c.read.result all c.read.ensures.header
    c.read.ensures.value)

pub returns-clause-header : goal.returns-clause-header
returns-clause-header c =
    let starts = subst (λ t. StartsFile (Some t) c.in-Ok.records.left) c.as_slice.ensures.value c.in-Ok.ensures in
    let all = marked_records c.self.inside.marked.items c.in-Ok.records.left c.self.invariant.0 starts in
    rw (← c.self.view_is)
    (head_fines c.args.report.now c.args.table c.args.limit (records_left state.StartRecord (drop 3 c.self.inside.marked.items)) c.in-Ok.records.left c.read.new.records.left c.read.result all c.read.ensures.header)

pub returns-clause-fault : goal.returns-clause-fault
returns-clause-fault c =
    let starts = subst (λ t. StartsFile (Some t) c.in-Ok.records.left) c.as_slice.ensures.value c.in-Ok.ensures in
    let all = marked_records c.self.inside.marked.items c.in-Ok.records.left c.self.invariant.0 starts in
    rw (← c.self.view_is)
    (head_faults c.args.report.now c.args.table c.args.limit (records_left state.StartRecord (drop 3 c.self.inside.marked.items)) c.in-Ok.records.left c.read.result all c.read.ensures.fault)

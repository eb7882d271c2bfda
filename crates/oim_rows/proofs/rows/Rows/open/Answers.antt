use Rattle.std.proofs.Common.{◌∙◌}
use Rattle.std.proofs.lemmas.Option.{IfSome_then}
use Rattle.oim_rows.proofs.StreamLaws.{opened_stream, refused_header, refused_memory, starts_known}
use Rattle.oim_rows.proofs.WholeLaw.{left_is_of_all_rows}
use Rattle.oim_rows.proofs.rows.Rows.open.Goals as goal

pub returns-clause-stream : goal.returns-clause-stream
returns-clause-stream g c =
    let known = g.R.Read.remaining c.args.reader in
    let starts = starts_known known c.new-records.result c.new-records.ensures in
    let both = opened_stream c.args.report.now c.args.table c.args.limits.rows
    known c.new-records.result c.read_csv.new.records c.in-Ok.header.columns c.in-Ok-new.decoder c.new-2.result
    starts c.in-Ok.ensures.header (c.in-Ok-new.ensures ∙ c.in-Ok.ensures.value) c.new-2.ensures in
    IfSome_then known both (λ bytes h. h.0)

pub returns-clause-header : goal.returns-clause-header
returns-clause-header g c =
    let known = g.R.Read.remaining c.args.reader in
    let starts = starts_known known c.new-records.result c.new-records.ensures in
    let both = opened_stream c.args.report.now c.args.table c.args.limits.rows
    known c.new-records.result c.read_csv.new.records c.in-Ok.header.columns c.in-Ok-new.decoder c.new-2.result
    starts c.in-Ok.ensures.header (c.in-Ok-new.ensures ∙ c.in-Ok.ensures.value) c.new-2.ensures in
    IfSome_then known both (λ bytes h. h.1)

pub returns-clause-whole : goal.returns-clause-whole
returns-clause-whole g c =
    let known = g.R.Read.remaining c.args.reader in
    let starts = starts_known known c.new-records.result c.new-records.ensures in
    let both = opened_stream c.args.report.now c.args.table c.args.limits.rows
    known c.new-records.result c.read_csv.new.records c.in-Ok.header.columns c.in-Ok-new.decoder c.new-2.result
    starts c.in-Ok.ensures.header (c.in-Ok-new.ensures ∙ c.in-Ok.ensures.value) c.new-2.ensures in
    IfSome_then known both (λ bytes h. left_is_of_all_rows c.args.report.now c.args.table c.args.limits.rows bytes _ h.0)

pub returns-in-Err-clause-fault : goal.returns-in-Err-clause-fault
returns-in-Err-clause-fault g c =
    let known = g.R.Read.remaining c.args.reader in
    refused_header c.args.report.now c.args.table known c.new-records.result c.in-Err.fault (starts_known known c.new-records.result c.new-records.ensures) c.in-Err.ensures.fault

pub returns-in_default-clause-fault : goal.returns-in_default-clause-fault
returns-in_default-clause-fault g c = refused_memory c.args.report.now c.args.table (g.R.Read.remaining c.args.reader) c.whole_fault.result c.whole_fault.ensures

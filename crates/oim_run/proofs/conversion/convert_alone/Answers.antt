use Rattle.std.proofs.Common.{length, inl, rules, vec_capacity}
use Rattle.oim_convert.specs.ReadAlone.{AreRead}
use Rattle.oim_convert.proofs.SerialLaws.{read_decoded, read_few}
use Rattle.oim_convert.proofs.SerialTables.{until_as}
use Rattle.oim_run.proofs.Answered.{converted, converted_leaves, roomy}
use Rattle.oim_run.proofs.Endings.{as_many}
use Rattle.oim_run.proofs.conversion.convert_alone.Goals as goal

pub returns-clause-ends : goal.returns-clause-ends
returns-clause-ends g c = λ files are.
    let told = g.R.Read.remaining in let report = c.args.report.now in let limit = c.args.limits.rows in let readers = c.args.readers.items in
    let old = g.W.Sink.seen c.args.sink.now in let new = g.W.Sink.seen c.convert_here-run.new.sink in
    converted c.args.layout 1 1 (length readers) report old new c.convert_here-run.result c.in-Ok.names.items c.ending.result c.ending.ensures
    c.convert_here-run.ensures.faults _ ⊥ c.convert_here-run.ensures.writes limit files c.in-Ok.ensures (as_many told readers files are)
    (λ none lost. absurd lost)
    (λ none run so. until_as (λ hs read. inl (read_decoded told report limit 0 readers files hs are read)) c.args.layout report old new run.faults.items run.end so.1)

pub returns-clause-leaves : goal.returns-clause-leaves
returns-clause-leaves g c =
    let report = c.args.report.now in let readers = c.args.readers.items in
    converted_leaves c.args.layout 1 1 (length readers) report (g.W.Sink.seen c.args.sink.now)
    (g.W.Sink.seen c.convert_here-run.new.sink)
    c.convert_here-run.result c.in-Ok.names.items c.ending.result c.ending.ensures c.convert_here-run.ensures.faults _ ⊥ c.convert_here-run.ensures.writes
    (AreRead g.R.Read.remaining report c.args.limits.rows 0 readers) (λ none lost. absurd lost) (λ run so. so.1)

pub ending-requires-clause-room : goal.ending-requires-clause-room
ending-requires-clause-room g c =
    let report = c.args.report.now in let readers = c.args.readers.items in let limit = c.args.limits.rows in
    roomy (AreRead g.R.Read.remaining report limit 0 readers) c.args.layout report (g.W.Sink.seen c.args.sink.now)
    (g.W.Sink.seen c.convert_here-run.new.sink)
    (length readers) (read_few g.R.Read.remaining report limit 0 readers) (vec_capacity c.in-Ok-with_capacity.room) c.convert_here-run.result _ ⊥ (search rules)
    c.convert_here-run.ensures.writes (λ run so. so.1)

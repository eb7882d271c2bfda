use Rattle.std.proofs.Common.{ap}
use Rattle.std.proofs.lemmas.Option.{IfSome_then}
use Rattle.oim_convert.specs.Histories.{facts_in}
use Rattle.oim_convert.proofs.SentFacts.{opened_given, reading_begins, unopened_given}
use Rattle.oim_convert.proofs.alone.send_alone.Goals as goal

pub returns-in-Err-clause-given : goal.returns-in-Err-clause-given
returns-in-Err-clause-given g c =
    IfSome_then (g.R.Read.remaining c.args.file.reader) c.in-Err.ensures.fault (λ bytes bad.
    unopened_given c.args.file.report.now c.args.file.table c.args.file.limits.rows bytes (facts_in c.args.feed.now.sent) c.in-Err.fault bad (ap facts_in c.requires.fresh))

pub returns-in-Ok-clause-given : goal.returns-in-Ok-clause-given
returns-in-Ok-clause-given g c =
    let blocks = c.in-Ok.blocks in
    let begun = reading_begins blocks.table blocks.left (facts_in c.args.feed.now.sent) blocks.pending (ap facts_in c.requires.fresh) c.in-Ok.ensures.begun.1 in
    opened_given c.args.file.report.now c.args.file.table blocks.table c.args.file.limits.rows (g.R.Read.remaining c.args.file.reader)
    blocks.left (facts_in c.send_blocks.new.feed.sent) c.send_blocks.result c.in-Ok.ensures.start.0 c.in-Ok.ensures.stream
    (IfSome_then blocks.left begun c.send_blocks.ensures.given)

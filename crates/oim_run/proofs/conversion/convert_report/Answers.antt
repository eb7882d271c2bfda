use Rattle.std.proofs.Common.{length, rules, vec_capacity}
use Rattle.oim_convert.specs.Answer.{streams}
use Rattle.oim_convert.specs.Runs.{AreEnded, early_fault}
use Rattle.oim_run.specs.Outcomes.{EndsAs, Leaves}
use Rattle.oim_run.proofs.Answered.{as_one, converted, converted_leaves, ended_few, roomy, run_streams, run_until, with_histories}
use Rattle.oim_run.proofs.Endings.{as_many}
use Rattle.oim_run.proofs.conversion.convert_report.Goals as goal

pub returns-then-is_alone-clause-ends : goal.returns-then-is_alone-clause-ends
returns-then-is_alone-clause-ends g c = λ files are.
    let course = c.args.course in let report = c.args.report.now in let many = length files in let tables = length report.tables in
    let old = g.W.Sink.seen c.args.sink.now in let new = g.W.Sink.seen c.convert_alone.new.sink in
    as_one (λ workers early. EndsAs workers course.layout early report (streams report course.limits.rows files) old new c.convert_alone.result)
    course.workers (early_fault course.workers course.ring many tables) (early_fault 1 1 many tables)
    (c.is_alone.ensures.one c.if-is_alone.true) (c.is_alone.ensures.alone c.if-is_alone.true many tables) (c.convert_alone.ensures.ends files are)

pub returns-then-is_alone-clause-leaves : goal.returns-then-is_alone-clause-leaves
returns-then-is_alone-clause-leaves g c =
    let course = c.args.course in let many = length c.args.readers.items in let tables = length c.args.report.now.tables in
    let old = g.W.Sink.seen c.args.sink.now in let new = g.W.Sink.seen c.convert_alone.new.sink in
    as_one (λ workers early. Leaves workers early old new c.convert_alone.result) course.workers (early_fault course.workers course.ring many tables) (early_fault 1 1 many tables)
    (c.is_alone.ensures.one c.if-is_alone.true) (c.is_alone.ensures.alone c.if-is_alone.true many tables) c.convert_alone.ensures.leaves

pub returns-clause-ends : goal.returns-clause-ends
returns-clause-ends g c = λ files are.
    let course = c.args.course in let report = c.args.report.now in let readers = c.args.readers.items in let tables = length report.tables in
    let old = g.W.Sink.seen c.args.sink.now in let new = g.W.Sink.seen c.convert-answer.new.sink in
    let several = c.is_alone.ensures.others c.if-is_alone.false (length readers) tables in
    converted course.layout course.workers course.ring (length readers) report old new c.convert-answer.result c.in-Ok.names.items c.ending.result c.ending.ensures
    c.convert-answer.ensures.faults _ _ (with_histories _ _ _ c.convert-answer.result (c.convert-answer.ensures.histories files are) c.convert-answer.ensures.writes)
    course.limits.rows files c.in-Ok.ensures (as_many g.R.Read.remaining readers files are) (λ fine lost. (several fine, lost))
    (λ fine run so. run_streams course.layout report old new tables run so.1 course.workers (streams report course.limits.rows files) (several fine) so.0)

pub returns-clause-leaves : goal.returns-clause-leaves
returns-clause-leaves g c =
    let course = c.args.course in let report = c.args.report.now in let many = length c.args.readers.items in let tables = length report.tables in
    let old = g.W.Sink.seen c.args.sink.now in let new = g.W.Sink.seen c.convert-answer.new.sink in
    converted_leaves course.layout course.workers course.ring many report old new c.convert-answer.result c.in-Ok.names.items c.ending.result c.ending.ensures
    c.convert-answer.ensures.faults _ _ c.convert-answer.ensures.writes (AreEnded tables)
    (λ fine lost. c.is_alone.ensures.others c.if-is_alone.false many tables fine) (run_until course.layout report old new tables)

pub ending-requires-clause-room : goal.ending-requires-clause-room
ending-requires-clause-room g c =
    let report = c.args.report.now in let tables = length report.tables in
    let old = g.W.Sink.seen c.args.sink.now in let new = g.W.Sink.seen c.convert-answer.new.sink in
    roomy (AreEnded tables) c.args.course.layout report old new tables (ended_few tables) (vec_capacity c.in-Ok-with_capacity.room) c.convert-answer.result _ _ (search rules)
    c.convert-answer.ensures.writes (run_until c.args.course.layout report old new tables)

use Rattle.std.specs.Prelude.{◌≡◌, length}
use Rattle.std.proofs.Common.{arith, subst}
use Rattle.oim_convert.specs.Runs.{Writes}
use Rattle.oim_convert.proofs.RunHistories.{run_headline, run_histories, run_served, run_threads, run_unserved}
use Rattle.oim_convert.proofs.threaded.convert_with_starts.Goals as goal

pub returns-clause-histories : goal.returns-clause-histories
returns-clause-histories g c = λ files are.
    let report = c.args.report.now in let limit = c.args.limits.rows in
    let old = g.W.Sink.seen c.args.sink.now in
    let new = g.W.Sink.seen c.run_ready.new.sink in
    let count : length c.args.readers.items ≡ length report.tables = omega (arith, c.in-None.ensures.fine, c.len.ensures, c.tables.ensures, c.args.readers.ok.0) in
    let writes = subst (λ l. Writes l report (length report.tables) old new c.run_ready.result) c.in-Ok.ensures.layout c.run_ready.ensures.writes in
    run_histories c.args.layout g.R.Read.remaining report limit c.args.starts c.in-Ok.ready.crew.claims.items c.args.readers.items
    c.in-Ok.ensures.readers count files are old new c.run_ready.result c.run_ready.ensures.tables writes

pub returns-clause-headline : goal.returns-clause-headline
returns-clause-headline g c = λ files are.
    let report = c.args.report.now in let limit = c.args.limits.rows in
    let old = g.W.Sink.seen c.args.sink.now in
    let new = g.W.Sink.seen c.run_ready.new.sink in
    let count : length c.args.readers.items ≡ length report.tables = omega (arith, c.in-None.ensures.fine, c.len.ensures, c.tables.ensures, c.args.readers.ok.0) in
    let writes = subst (λ l. Writes l report (length report.tables) old new c.run_ready.result) c.in-Ok.ensures.layout c.run_ready.ensures.writes in
    run_headline c.args.layout g.R.Read.remaining report limit c.args.starts c.in-Ok.ready.crew.claims.items c.args.readers.items
    c.in-Ok.ensures.readers count files are old new c.run_ready.result c.run_ready.ensures.tables writes

pub returns-clause-threads : goal.returns-clause-threads
returns-clause-threads g c = λ files are.
    let report = c.args.report.now in let limit = c.args.limits.rows in
    let old = g.W.Sink.seen c.args.sink.now in
    let new = g.W.Sink.seen c.run_ready.new.sink in
    let count : length c.args.readers.items ≡ length report.tables = omega (arith, c.in-None.ensures.fine, c.len.ensures, c.tables.ensures, c.args.readers.ok.0) in
    let writes = subst (λ l. Writes l report (length report.tables) old new c.run_ready.result) c.in-Ok.ensures.layout c.run_ready.ensures.writes in
    run_threads c.args.layout g.R.Read.remaining report limit c.args.starts c.in-Ok.ready.crew.claims.items c.args.readers.items
    c.in-Ok.ensures.readers count files are old new c.run_ready.result c.run_ready.ensures.tables writes

pub returns-clause-alone : goal.returns-clause-alone
returns-clause-alone g c = λ none files are.
    let report = c.args.report.now in let limit = c.args.limits.rows in
    let old = g.W.Sink.seen c.args.sink.now in
    let new = g.W.Sink.seen c.run_ready.new.sink in
    let count : length c.args.readers.items ≡ length report.tables = omega (arith, c.in-None.ensures.fine, c.len.ensures, c.tables.ensures, c.args.readers.ok.0) in
    let writes = subst (λ l. Writes l report (length report.tables) old new c.run_ready.result) c.in-Ok.ensures.layout c.run_ready.ensures.writes in
    run_unserved c.args.layout g.R.Read.remaining report limit c.args.starts c.in-Ok.ready.crew.claims.items c.args.readers.items
    c.in-Ok.ensures.readers count files are old new c.run_ready.result c.run_ready.ensures.tables writes none

pub returns-clause-tables : goal.returns-clause-tables
returns-clause-tables g c =
    let report = c.args.report.now in let limit = c.args.limits.rows in
    let old = g.W.Sink.seen c.args.sink.now in
    let new = g.W.Sink.seen c.run_ready.new.sink in
    let count : length c.args.readers.items ≡ length report.tables = omega (arith, c.in-None.ensures.fine, c.len.ensures, c.tables.ensures, c.args.readers.ok.0) in
    let writes = subst (λ l. Writes l report (length report.tables) old new c.run_ready.result) c.in-Ok.ensures.layout c.run_ready.ensures.writes in
    run_served c.args.layout g.R.Read.remaining report limit c.args.starts c.in-Ok.ready.crew.claims.items c.args.readers.items
    c.in-Ok.ensures.readers count old new c.run_ready.result c.run_ready.ensures.tables writes

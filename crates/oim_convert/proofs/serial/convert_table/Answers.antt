use Rattle.std.specs.Prelude.{Some, IfSome, Ok, []}
use Rattle.std.proofs.Common.{inl, refl, subst}
use Rattle.oim_rows.specs.Streams.{table_stream}
use Rattle.oim_records.specs.Reads.{IsFileOf}
use Rattle.oim_convert.specs.state.Steps.{Gave, GaveTable}
use Rattle.oim_convert.proofs.TableFiles.{has_file, has_no_file}
use Rattle.oim_convert.proofs.SerialTables.{took_as, took_nothing}
use Rattle.oim_convert.proofs.serial.convert_table.Goals as goal

pub returns-in-None-clause-took : goal.returns-in-None-clause-took
returns-in-None-clause-took g c =
    let told = g.R.Read.remaining in let report = c.args.report.now in let table = c.args.table in let limit = c.args.limits.rows in
    let ending = c.without_file.result in
    took_nothing c.args.writer.now (λ facts. GaveTable told report table limit c.args.reader facts (Ok ending))
    (λ file is. has_no_file told file (λ f. Gave table (table_stream report table limit f) [] (Ok ending)) (subst (λ r. IsFileOf told r file) c.in-None.is is)
    (inl (refl, c.without_file.ensures limit)))

pub returns-in-Some-clause-took : goal.returns-in-Some-clause-took
returns-in-Some-clause-took g c =
    let told = g.R.Read.remaining in let report = c.args.report.now in let table = c.args.table in let limit = c.args.limits.rows in
    let reader = c.in-Some.reader in let answer = c.convert_file.result in
    took_as c.args.writer.now c.convert_file.new.writer (λ facts. IfSome (told reader) (λ bytes. Gave table (table_stream report table limit (Some bytes)) facts answer))
    (λ facts. GaveTable told report table limit c.args.reader facts answer) c.convert_file.ensures.took
    (λ facts gave file is. has_file told reader file (λ f. Gave table (table_stream report table limit f) facts answer) (subst (λ r. IsFileOf told r file) c.in-Some.is is)
    (λ bytes tells. subst (λ o. IfSome o (λ b. Gave table (table_stream report table limit (Some b)) facts answer)) tells gave))

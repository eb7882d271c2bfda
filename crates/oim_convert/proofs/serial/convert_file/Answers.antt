use Rattle.std.specs.Prelude.{Some, IfSome, Ok, []}
use Rattle.std.proofs.Common.{refl, subst}
use Rattle.std.proofs.lemmas.Option.{IfSome_then}
use Rattle.oim_ring.specs.declared.item.Ending.TheVariants.{Refused}
use Rattle.oim_rows.specs.Streams.{table_stream}
use Rattle.oim_convert.specs.state.Steps.{Gave}
use Rattle.oim_convert.proofs.SentFacts.{unopened_given}
use Rattle.oim_convert.proofs.SerialTables.{took_as, took_nothing}
use Rattle.oim_convert.proofs.serial.convert_file.Goals as goal

pub returns-in-Ok-clause-took : goal.returns-in-Ok-clause-took
returns-in-Ok-clause-took g c =
    let bytes = g.R.Read.remaining c.args.reader in let table = c.args.table in
    let left = c.in-Ok.blocks.left in let answer = c.write_blocks.result in
    took_as c.args.writer.now c.write_blocks.new.writer (λ facts. IfSome left (λ s. Gave table s facts answer))
    (λ facts. IfSome bytes (λ b. Gave table (table_stream c.args.report.now table c.args.limits.rows (Some b)) facts answer)) c.write_blocks.ensures.took
    (λ facts gave. IfSome_then bytes c.in-Ok.ensures.stream (λ b is. subst (λ o. IfSome o (λ s. Gave table s facts answer)) is gave))

pub returns-in-Err-clause-took : goal.returns-in-Err-clause-took
returns-in-Err-clause-took g c =
    let bytes = g.R.Read.remaining c.args.reader in let table = c.args.table in let report = c.args.report.now in let limit = c.args.limits.rows in
    took_nothing c.args.writer.now (λ facts. IfSome bytes (λ b. Gave table (table_stream report table limit (Some b)) facts (Ok (Refused c.in-Err.fault))))
    (IfSome_then bytes c.in-Err.ensures.fault (λ b bad. unopened_given report table limit b [] c.in-Err.fault bad refl))

use Rattle.std.proofs.Common.{IfSome, Ok, subst}
use Rattle.std.proofs.lemmas.Result.{IfOk-weaker}
use Rattle.oim_files.specs.Steps.{GivesRest}
use Rattle.oim_places.proofs.FaultPlaces.{report_is}
use Rattle.oim_places.proofs.reread.report_again.Goals as goal

pub returns-in-Ok-clause-report : goal.returns-in-Ok-clause-report
returns-in-Ok-clause-report g c =
    let base = c.folder_of.result.now in
    let items = c.in-Ok.bytes.items in
    IfOk-weaker c.with_bytes.result _ _
    (λ a is. report_is (g.F.Folder.files c.args.folder.now) base c.args.meta.now c.args.types.now items a.report c.folder_of.ensures c.in-Ok.ensures.gives
    (subst (λ known. IfSome known (λ files. GivesRest files base items c.args.types.now (Ok a.report))) c.in-Ok.ensures.same is))
    c.with_bytes.ensures.report

use Rattle.std.proofs.Common.{rules, ◌≡◌, false, subst}
use Rattle.oim_places.specs.FaultLists.{IsStartOf}
use Rattle.oim_places.specs.FaultPlaces.{IsTablePath, is_of_file}
use Rattle.oim_places.specs.FolderFiles.{FoundAt}
use Rattle.oim_explain.proofs.FaultTexts.{table_listed}
use Rattle.oim_explain.proofs.fault_list.list_faults.Goals as goal

pub returns-clause-lists : goal.returns-clause-lists
returns-clause-lists g c =
    let f = c.args.table.fault.now in
    let report = c.args.again.now.report in
    let path = c.as_str-path.result.now in
    let is : is_of_file f.kind ≡ false = search rules in
    let at : IsTablePath c.args.table.meta.now report f.table path = search rules in
    let found = subst (λ known. FoundAt known path (IsStartOf report f.table c.in-Some.rows)) c.line_again-line.ensures.same c.in-Some.ensures.faults in
    table_listed c.first_fault_is_of_stream.ensures.first (g.F.Folder.files c.args.folder.now) (g.W.Write.contents c.args.to.now) (g.W.Write.contents c.put_rows.new.to)
    c.args.table.meta.now path report c.args.table.id.now f c.args.table.most c.in-Some.rows c.put_rows.result is at c.in-Some.ensures.table found c.put_rows.ensures

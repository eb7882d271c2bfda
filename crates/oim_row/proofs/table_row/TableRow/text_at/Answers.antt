use Rattle.std.proofs.Common.{Some, None, ap, ◌∙◌}
use Rattle.std.specs.List.{slice_get}
use Rattle.oim_row.specs.Rows.{RowValue}
use Rattle.oim_row.proofs.Fields.{found}
use Rattle.oim_row.proofs.table_row.TableRow.text_at.Goals as goal

pub returns-in-Some-get : goal.returns-in-Some-get
returns-in-Some-get c =
    rw c.in-Some.is (found c.args.self.now.fields c.in-Some.place (Some c.in-Some-get.text.now) (c.in-Some-get.ensures ∙ ap (λ (x : RowValue). slice_get x.fields c.in-Some.place) c.self.view_is))

pub returns-in-None-get : goal.returns-in-None-get
returns-in-None-get c =
    rw c.in-Some.is (found c.args.self.now.fields c.in-Some.place None (c.in-None-get.ensures ∙ ap (λ (x : RowValue). slice_get x.fields c.in-Some.place) c.self.view_is))

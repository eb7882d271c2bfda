use Rattle.std.proofs.Common.{Some, None, ap, sym, take, ◌∙◌}
use Rattle.std.specs.List.{slice_get}
use Rattle.oim_row.specs.Rows.{RowValue}
use Rattle.oim_row.proofs.Fields.{found}
use Rattle.oim_row.proofs.table_row.TableRow.bytes_at.Goals as goal

pub returns-in-Some-clause-bytes : goal.returns-in-Some-clause-bytes
returns-in-Some-clause-bytes c =
    ap (λ n. take n c.rest.result.now) c.len.ensures ∙ c.rest.ensures.field
    ∙ found c.args.self.now.fields c.args.place (Some c.in-Some.field) (sym c.in-Some.is ∙ c.with_rest.ensures ∙ ap (λ (x : RowValue). slice_get x.fields c.args.place) c.self.view_is)

pub returns-in-None-clause-bytes : goal.returns-in-None-clause-bytes
returns-in-None-clause-bytes c =
    found c.args.self.now.fields c.args.place None (sym c.in-None.is ∙ c.with_rest.ensures ∙ ap (λ (x : RowValue). slice_get x.fields c.args.place) c.self.view_is)

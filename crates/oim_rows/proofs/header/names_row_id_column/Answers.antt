use Rattle.std.proofs.Common.{◌∙◌, ap, is_some}
use Rattle.oim_rows.proofs.Repeats.{named_if_placed}
use Rattle.oim_rows.proofs.header.names_row_id_column.Goals as goal

pub returns-in-Some : goal.returns-in-Some
returns-in-Some c = rw c.in-Some.is (c.is_some.ensures ∙ ap is_some c.place_of.ensures ∙ named_if_placed c.args.header.now c.in-Some.column)

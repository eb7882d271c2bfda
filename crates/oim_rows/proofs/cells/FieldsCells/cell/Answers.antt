use Rattle.std.proofs.Common.{◌∙◌, sym}
use Rattle.oim_rows.proofs.Places.{field_there}
use Rattle.oim_rows.proofs.cells.FieldsCells.cell.Goals as goal

pub returns : goal.returns
returns c = c.get.ensures ∙ sym (field_there c.args.self.now c.args.place)

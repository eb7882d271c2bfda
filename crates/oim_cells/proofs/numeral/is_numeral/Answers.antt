use Rattle.oim_cells.proofs.numeral.is_numeral.Goals as goal

pub returns-in-Double : goal.returns-in-Double
returns-in-Double c = rw c.in-Double.is c.is_double.ensures

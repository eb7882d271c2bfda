use Rattle.std.proofs.Common.{Ok, Err, sym, ◌∙◌}
use Rattle.csv.specs.Records.{fields_of}
use Rattle.oim_rows.proofs.StreamLaws.{cells_answer}
use Rattle.oim_rows.proofs.decoder.Decoder.facts.Goals as goal

pub returns-in-Err-clause-facts : goal.returns-in-Err-clause-facts
returns-in-Err-clause-facts c =
    rw (← c.self.view_is)
    (cells_answer c.self.inside.header c.self.inside.plan c.args.number c.args.ids.now (fields_of c.args.row.now) (Err c.in-Err.fault) (sym c.fault_of_cells.ensures ∙ c.in_default.is) c.self.invariant c.in-Err.ensures)

pub returns-else-is_err-clause-facts : goal.returns-else-is_err-clause-facts
returns-else-is_err-clause-facts c =
    rw (← c.self.view_is)
    (cells_answer c.self.inside.header c.self.inside.plan c.args.number c.args.ids.now (fields_of c.args.row.now) (Ok c.in-Ok.facts) (sym c.fault_of_cells.ensures ∙ c.in_default.is) c.self.invariant c.in-Ok.ensures)

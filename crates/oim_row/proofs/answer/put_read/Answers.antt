use Rattle.std.proofs.Common.{◌++◌, sym, ap, ◌∙◌}
use Rattle.oim_cells.specs.Cells.{seen_meaning}
use Rattle.oim_row.specs.Answers.{dimension_json}
use Rattle.oim_row.proofs.ReadLaws.{entry_read}
use Rattle.oim_row.proofs.answer.put_read.Goals as goal

pub returns-clause-text : goal.returns-clause-text
returns-clause-text c = λ yes_.
    c.in_ok-put_entry.ensures
    ∙ ap (λ e. c.args.out.now.items ++ dimension_json e) (entry_read c.args.report.now c.args.role c.args.side (seen_meaning c.args.value) c.in-Ok.entry (sym c.in_ok-read.ensures.value ∙ c.in-Ok.is))

use Rattle.std.proofs.Common.{ap, sym, ◌∙◌, arith, List, ℕ}
use Rattle.oim_report.specs.declared.data.Level.{Level}
use Rattle.oim_row.proofs.GroupLaws.{named_there}
use Rattle.oim_row.proofs.group_cells.place_among.Goals as goal

pub returns-then-is_same : goal.returns-then-is_same
returns-then-is_same c = λ column same.
    named_there column c.args.groups.now c.args.name.now c.loop-i.i c.index-groups-i.result c.requires (omega arith) c.index-groups-i.is
    (ap (λ (e : List ℕ × Level). e.0) c.index-groups-i.is ∙ sym c.as_str.ensures ∙ c.is_same.ensures c.if-is_same.true) same

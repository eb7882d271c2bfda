use Rattle.std.proofs.Common.{ap, sym, ◌∙◌, arith, List, ℕ}
use Rattle.oim_report.specs.declared.data.Level.{Level}
use Rattle.oim_row.proofs.GroupLaws.{named_there}
use Rattle.oim_row.proofs.group_cells.GroupCell.find.Goals as goal

pub returns-then-is_same : goal.returns-then-is_same
returns-then-is_same c = λ column same.
    named_there column c.args.self.now.groups.now c.args.name.now c.in-Group.place c.index-self-place.result c.requires (omega arith) c.index-self-place.is
    (ap (λ (e : List ℕ × Level). e.0) c.index-self-place.is ∙ sym c.as_str.ensures ∙ c.is_same.ensures c.if-is_same.true) same

pub returns-then-is_same-2 : goal.returns-then-is_same-2
returns-then-is_same-2 c = λ column same.
    named_there column c.args.self.now.groups.now c.args.name.now c.args.guess c.index-self-guess.result c.requires (omega arith) c.index-self-guess.is
    (ap (λ (e : List ℕ × Level). e.0) c.index-self-guess.is ∙ sym c.as_str-then-guess-self.ensures ∙ c.is_same-then-guess-self.ensures c.if-is_same-2.true) same

use Rattle.std.proofs.Common.{◌≡◌, ap, ◌∙◌, subst}
use Rattle.oim_cells.specs.Cells.{Meaning, Text, meaning_of}
use Rattle.oim_rows.specs.RowFacts.{field_or_empty}
use Rattle.oim_row.specs.Groups.{Says}
use Rattle.oim_row.specs.Rows.{column_in}
use Rattle.oim_row.proofs.group_cells.GroupCell.choice_in.Goals as goal

pub returns-in-Text : goal.returns-in-Text
returns-in-Text c =
    let column = column_in c.args.row.now.header c.args.self.now.column in
    let said : Text c.in-Text.name.now ≡ meaning_of (field_or_empty c.args.row.now.fields c.args.self.now.place) = c.in-Text.ensures.value ∙ ap meaning_of c.text_at.ensures in
    subst (λ (v : Meaning). Says column v c.find.result) said (c.find.ensures column c.requires.groups)

use Rattle.std.proofs.Common.{◌++◌, ◌∷◌, [], List, sym, ap, ◌∙◌, arith}
use Rattle.oim_row.specs.declared.group_cells.Choice.{Choice}
use Rattle.oim_fast.proofs.ChoiceLaws.{choices_more}
use Rattle.oim_fast.proofs.frame.frame_maker.choices_of.Goals as goal

pub loop-i-preserved : goal.loop-i-preserved
loop-i-preserved c =
    let groups = c.args.column.now.groups.items in
    let cells = c.args.cells.now.list.items in
    let i = c.loop-i.i in
    c.in_ok-push.ensures.items ∙ ap (λ (os : List Choice). os ++ c.choice-choice.result ∷ []) c.loop-i.invariant
    ∙ sym (choices_more cells groups i c.index-group.result.now c.choice-choice.result (omega (arith, c.len-i-end.ensures)) c.index-group.ensures c.choice-choice.ensures)

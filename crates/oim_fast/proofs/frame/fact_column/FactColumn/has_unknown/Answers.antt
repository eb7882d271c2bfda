use Rattle.std.proofs.Common.{◌≡◌, ℕ, List, sym, subst, take, true, arith}
use Rattle.std.specs.List.{All}
use Rattle.std.proofs.lemmas.List.{take_all}
use Rattle.oim_fast.specs.state.Frames.{is_known_choice}
use Rattle.oim_fast.specs.state.ChosenGroups.{choices_in}
use Rattle.oim_row.specs.declared.group_cells.Choice.{Choice}
use Rattle.oim_fast.proofs.ChoiceLaws.{choices_more, known_of}
use Rattle.oim_row.proofs.Growth.{all_push}
use Rattle.oim_fast.proofs.frame.fact_column.FactColumn.has_unknown.Goals as goal

abbrev known : List Choice → Type 0
known = All (λ o. is_known_choice o ≡ true)

pub loop-i-preserved : goal.loop-i-preserved
loop-i-preserved c =
    let cells = c.args.cells.now.list.items in
    let groups = c.args.self.now.groups.items in
    let i = c.loop-i.i in
    let o = c.choice.result in
    subst known (sym (choices_more cells groups i c.index.result.now o (omega (arith, c.len-i-end.ensures)) c.index.ensures c.choice.ensures))
    (all_push (λ q. is_known_choice q ≡ true) (choices_in cells (take i groups)) o c.loop-i.invariant (known_of o c.in_default.not-Unknown))

pub returns : goal.returns
returns c = λ _.
    let groups = c.args.self.now.groups.items in
    subst (λ (ps : List ℕ). known (choices_in c.args.cells.now.list.items ps)) (take_all c.loop-i.i groups (omega (arith, c.len-i-end.ensures))) c.loop-i.invariant

use Rattle.std.proofs.Common.{◌≡◌, ◌<◌, ◌+◌, ◌∷◌, ◌++◌, [], true, length, take, get_or, sym, ap, subst, ◌∙◌, arith, rules}
use Rattle.std.specs.List.{All}
use Rattle.std.proofs.lemmas.List.{get_or_default, take_all, take_more}
use Rattle.oim_fast.specs.state.Frames.{is_known_choice}
use Rattle.oim_fast.specs.state.ChosenGroups.{choices_in}
use Rattle.oim_row.specs.declared.group_cells.Choice.{Choice}
use Rattle.oim_fast.proofs.ChoiceLaws.{choices_more}
use Rattle.oim_row.proofs.Growth.{all_push}
use Rattle.oim_fast.proofs.frame.frames.are_chosen.Goals as goal

pub loop-i-preserved : goal.loop-i-preserved
loop-i-preserved c =
    let cells = c.args.cells.now.list.items in
    let choices = c.args.choices.now in
    let groups = c.args.groups.now in
    let i = c.loop-i.i in
    let o = c.choice-choice.result in
    let yes : c.is_same_choice.result ≡ true = search rules in
    let same = c.is_same_choice.ensures yes in
    let within : i < length groups = omega arith in
    let equal = get_or_default choices i o _ c.loop-i-test.true ∙ same.0 in
    let here : take (i + 1) choices ≡ take i choices ++ o ∷ [] = take_more choices i o c.loop-i-test.true ∙ ap (λ (q : Choice). take i choices ++ q ∷ []) equal in
    record {
      same = here ∙ ap (λ os. os ++ o ∷ []) c.loop-i.invariant.same
          ∙ sym (choices_more cells groups i (get_or groups i 0) o within (get_or_default groups i 0 (get_or groups i 0) within) c.choice-choice.ensures);
      known = subst (All (λ q. is_known_choice q ≡ true)) (sym here)
          (all_push (λ q. is_known_choice q ≡ true) (take i choices) o c.loop-i.invariant.known (sym (ap is_known_choice same.0) ∙ same.1));
    }

pub returns : goal.returns
returns c = λ _.
    let cells = c.args.cells.now.list.items in
    let choices = c.args.choices.now in
    let groups = c.args.groups.now in
    let i = c.loop-i.i in
    let all : take i choices ≡ choices = take_all i choices (omega arith) in
    let every : take i groups ≡ groups = take_all i groups (omega arith) in
    (sym all ∙ c.loop-i.invariant.same ∙ ap (choices_in cells) every, subst (All (λ q. is_known_choice q ≡ true)) all c.loop-i.invariant.known)

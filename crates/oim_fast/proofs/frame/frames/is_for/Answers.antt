use Rattle.std.proofs.Common.{◌≡◌, ap, sym, subst, ◌∙◌, true, arith, rules}
use Rattle.std.specs.List.{All}
use Rattle.oim_fast.specs.state.Frames.{is_known_choice}
use Rattle.oim_fast.specs.state.ChosenGroups.{choices_in}
use Rattle.oim_fast.proofs.frame.frames.is_for.Goals as goal

pub returns : goal.returns
returns c = λ yes.
    let frame = c.args.frame.now in
    let column = c.args.column.now in
    let both = c.are_chosen.ensures yes in
    let same_column : frame.column ≡ column.column = omega arith in
    let is : c.is_same_kind.result ≡ true = search rules in
    record {
      is = record {
        column = same_column;
        kind = c.is_same_kind.ensures is;
        choices = sym c.as_slice.ensures.value ∙ both.0 ∙ ap (choices_in c.args.cells.now.list.items) c.as_slice-2.ensures.value;
      };
      known = subst (All (λ o. is_known_choice o ≡ true)) c.as_slice.ensures.value both.1;
    }

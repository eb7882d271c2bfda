use Rattle.std.proofs.Common.{◌≡◌, ◌∙◌, ap, refl, subst, sym, true, map, List}
use Rattle.clap.specs.Kinds.{HasKind, Kinds}
use Rattle.clap.specs.declared.error.Error.{Error}
use Rattle.clap.specs.Words.{App, Row, app_of, fault_of, found_of, is_simple, is_simple_and_free, matches_of, rows_of}
use Rattle.oim_run.specs.CommandLine.{HasRequest, Words, command_line}
use Rattle.oim_run.proofs.request.request_by.Goals as goal

simple : (layouts : Words) → is_simple (command_line layouts) ≡ true
unfolding command_line
simple layouts = refl

free : (layouts : Words) → is_simple_and_free (command_line layouts) ≡ true
unfolding command_line
free layouts = refl

pub returns-in-Some-clause-values : goal.returns-in-Some-clause-values
returns-in-Some-clause-values c =
    let words = map (λ w. w.now) c.args.words.now in
    let layouts = c.args.layouts in
    let is : app_of c.in_ok-command.field-0 ≡ command_line layouts = c.in_ok-command.ensures in
    let same : rows_of (found_of c.in-Ok.matches) ≡ matches_of (command_line layouts) words =
    (c.in-Ok.ensures.matches (ap is_simple is ∙ simple layouts)).0 ∙ ap (λ a. matches_of a words) is in
    let has : HasRequest (rows_of (found_of c.in-Ok.matches)) c.in-Some.request =
    rw c.in-Some.is at c.in_ok-request.ensures.values in
    subst (λ (rows : List Row). HasRequest rows c.in-Some.request) same has

refused_by : (fault : App → Kinds) (a b : App) (e : Error) → a ≡ b → HasKind (fault a) e → HasKind (fault b) e
refused_by fault a b e is = subst (λ x. HasKind (fault x) e) is

pub returns-in-Some-clause-fails : goal.returns-in-Some-clause-fails
returns-in-Some-clause-fails c =
    let words = map (λ w. w.now) c.args.words.now in
    let layouts = c.args.layouts in
    let is : app_of c.in_ok-command.field-0 ≡ command_line layouts = c.in_ok-command.ensures in
    sym (ap (λ a. fault_of a words) is) ∙ c.in-Ok.ensures.kinds (ap is_simple_and_free is ∙ free layouts)

pub returns-in-Err-clause-fails : goal.returns-in-Err-clause-fails
returns-in-Err-clause-fails c =
    let words = map (λ w. w.now) c.args.words.now in
    let layouts = c.args.layouts in
    let is : app_of c.in_ok-command.field-0 ≡ command_line layouts = c.in_ok-command.ensures in
    refused_by (λ a. fault_of a words) _ _ c.in-Err.error is (c.in-Err.ensures.kinds (ap is_simple_and_free is ∙ free layouts))

use Rattle.std.proofs.Common.{◌++◌, ℕ, List, [], ◌∷◌, Some, None, sym, ap, ◌∙◌, arith, drop}
use Rattle.std.proofs.lemmas.Str.Pattern.{strip_prefix_char, strip_suffix_char}
use Rattle.oim_names.specs.Unit.{inside}
use Rattle.oim_names.proofs.Parentheses.{bracketed_is, inside_other}
use Rattle.oim_names.proofs.units.inside.Goals as goal

pub returns-in_default : goal.returns-in_default
returns-in_default c =
    let t : List ℕ = c.args.text.now in
    let n = strip_prefix_char 40 t None c.in_default.ensures.cases (omega arith) in
    sym (inside_other t (λ e. n (inside t ++ 41 ∷ []) (bracketed_is t e)))

pub returns-in-None : goal.returns-in-None
returns-in-None c =
    let t : List ℕ = c.args.text.now in
    let p = strip_prefix_char 40 t (Some c.in-Some.rest) c.in-Some.ensures.cases (omega arith) in
    let n = strip_suffix_char 41 c.in-Some.rest.now None c.in-None.ensures.cases (omega arith) in
    sym (inside_other t (λ e. n (inside t) (ap (drop 1) (sym p ∙ bracketed_is t e))))

use Rattle.std.proofs.Common.{◌&&◌, ◌==◌, ℕ, List, Some, None, sym, ap, ◌∙◌, arith, rules}
use Rattle.std.specs.List.{list_all, slice_split}
use Rattle.std.proofs.lemmas.Iterator.Splits.{YieldsList-from_str_split}
use Rattle.std.proofs.lemmas.Iterator.Search.{all_from_yields_List}
use Rattle.std.proofs.lemmas.Str.Pattern.{split_once_first}
use Rattle.oim_names.specs.Language.{is_letter_or_digit, is_part}
use Rattle.oim_names.proofs.Tags.{tag_cut, tag_uncut}
use Rattle.oim_resolve.proofs.language.is_language.Goals as goal

pub returns-in-None : goal.returns-in-None
returns-in-None c =
    let t : List ℕ = c.args.text.now in
    c.is_first_part-in-None.ensures ∙ tag_uncut t (split_once_first 45 t None c.in-None.ensures.cases (omega arith))

pub returns-then-is_first_part : goal.returns-then-is_first_part
returns-then-is_first_part c =
    let t : List ℕ = c.args.text.now in
    let o : List ℕ = c.in-Some.others.now in
    let p = split_once_first 45 t (Some (c.in-Some.first, c.in-Some.others)) c.in-Some.ensures.cases (omega arith) in
    let k = tag_cut t c.in-Some.first.now o p.0 p.1 p.2 in
    let y = YieldsList-from_str_split {s = c.split.result} 45 o (omega arith) c.split.ensures.text c.split.ensures.has_more c.split.ensures.pattern in
    all_from_yields_List (is_part is_letter_or_digit) _ _ c.all.result c.all.ensures.ran y (λ x r q k. search rules)
    ∙ ap (λ b. b && list_all (is_part is_letter_or_digit) (slice_split (λ c. c == 45) o)) (sym c.if-is_first_part.true ∙ c.is_first_part.ensures) ∙ k

pub returns-else-is_first_part : goal.returns-else-is_first_part
returns-else-is_first_part c =
    let t : List ℕ = c.args.text.now in
    let o : List ℕ = c.in-Some.others.now in
    let p = split_once_first 45 t (Some (c.in-Some.first, c.in-Some.others)) c.in-Some.ensures.cases (omega arith) in
    let k = tag_cut t c.in-Some.first.now o p.0 p.1 p.2 in
    c.if-is_first_part.false
    ∙ ap (λ b. b && list_all (is_part is_letter_or_digit) (slice_split (λ c. c == 45) o)) (sym c.if-is_first_part.false ∙ c.is_first_part.ensures) ∙ k

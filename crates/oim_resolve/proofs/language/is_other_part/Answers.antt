use Rattle.std.proofs.Common.{◌≡◌, ◌&&◌, ℕ, List, true, sym, ap, ◌∙◌, length, rules}
use Rattle.std.specs.Int.{is_in_range}
use Rattle.std.specs.List.{list_all}
use Rattle.std.proofs.lemmas.Iterator.{YieldsList-from_slice}
use Rattle.std.proofs.lemmas.Iterator.Search.{all_from_yields_List}
use Rattle.oim_names.specs.Language.{is_letter_or_digit}
use Rattle.oim_resolve.proofs.language.is_other_part.Goals as goal

pub returns-then-is_part_length : goal.returns-then-is_part_length
returns-then-is_part_length c =
    let t : List ℕ = c.args.text.now in
    let y = YieldsList-from_slice {s = c.iter.result} t (c.iter.ensures.rest ∙ c.as_bytes.ensures.value) in
    let a = all_from_yields_List is_letter_or_digit _ _ c.all.result c.all.ensures.ran y (λ x b q k. search rules) in
    let e : true ≡ is_in_range 1 8 (length t) = sym c.if-is_part_length.true ∙ c.is_part_length.ensures in
    a ∙ ap (λ b. b && list_all is_letter_or_digit t) e

use Rattle.std.proofs.Common.{◌≡◌, ℕ, ◌<◌, List, [], ◌∷◌, Bool, length, rules, arith, ◌∙◌}
use Rattle.std.specs.List.{list_all}
use Rattle.oim_names.specs.QName.{is_solid, is_no_blank}
use Rattle.std.proofs.lemmas.Iterator.{YieldsList-from_slice}
use Rattle.std.proofs.lemmas.Iterator.Search.{all_from_yields_List}
use Rattle.oim_names.proofs.qnames.is_solid.Goals as goal

begun : (t : List ℕ) (r : Bool) → 0 < length t → r ≡ list_all is_no_blank t → r ≡ is_solid t
begun [] r h e = absurd (omega arith)
begun (x ∷ xs) r h e = e

pub returns-then-not-is_empty : goal.returns-then-not-is_empty
returns-then-not-is_empty c =
    let t : List ℕ = c.args.text.now in
    let y = YieldsList-from_slice {s = c.iter.result} t (c.iter.ensures.rest ∙ c.as_bytes.ensures.value) in
    begun t c.all.result (grind arith) (all_from_yields_List is_no_blank _ _ c.all.result c.all.ensures.ran y (λ x b q k. search rules))

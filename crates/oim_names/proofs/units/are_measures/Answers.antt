use Rattle.std.proofs.Common.{List, ℕ, ◌∙◌, is_some, arith, rules}
use Rattle.std.proofs.lemmas.Iterator.Splits.{YieldsList-from_str_split}
use Rattle.std.proofs.lemmas.Iterator.Search.{all_from_yields_List}
use Rattle.oim_names.specs.QName.{qname_of}
use Rattle.oim_names.proofs.units.are_measures.Goals as goal

pub returns : goal.returns
returns c =
    let test = λ (measure : List ℕ). is_some (qname_of c.args.names.now measure) in
    let y = YieldsList-from_str_split {s = c.split.result} 42 c.loop-prefix.measures.now (omega arith) c.split.ensures.text c.split.ensures.has_more c.split.ensures.pattern in
    all_from_yields_List test _ _ c.all.result c.all.ensures.ran y (λ x r q k. search rules) ∙ c.loop-prefix.invariant.0

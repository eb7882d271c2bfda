-- The blocks of a piece, as they are sent one after another.
use Rattle.std.proofs.Common.{◌≡◌, ◌++◌, ◌∷◌, List, [], sym, ap, ◌∙◌, append-nil, append_assoc}
use Rattle.oim_resolve.specs.FactParts.{FactParts as Fact}
use Rattle.oim_ring.specs.declared.item.Item.{Item}
use Rattle.oim_ring.specs.declared.item.Item.TheVariants.{Block}
use Rattle.oim_rows.specs.Streams.{facts_of_rows}
use Rattle.oim_convert.specs.Histories.{facts_in}
use Rattle.oim_convert.proofs.SentFacts.{facts_push}

pub block_put : (sent sent' : List Item) (block all : List Fact) (left next : List (List Fact)) → facts_in sent ++ facts_of_rows left ≡ all → left ≡ block ∷ next
    → sent' ≡ sent ++ Block block ∷ [] → facts_in sent' ++ facts_of_rows next ≡ all
block_put sent sent' block all left next so first more =
    ap (λ t. facts_in t ++ facts_of_rows next) more ∙ ap (λ t. t ++ facts_of_rows next) (facts_push sent block)
    ∙ append_assoc (facts_in sent) block (facts_of_rows next) ∙ ap (λ t. facts_in sent ++ facts_of_rows t) (sym first) ∙ so

pub all_put : (sent : List Item) (all : List Fact) (left : List (List Fact)) → facts_in sent ++ facts_of_rows left ≡ all → left ≡ [] → facts_in sent ≡ all
all_put sent all left so none = sym (append-nil (facts_in sent)) ∙ ap (λ t. facts_in sent ++ facts_of_rows t) (sym none) ∙ so

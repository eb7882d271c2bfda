-- Facts that are put into blocks, one block after another.
use Rattle.std.proofs.Common.{◌≡◌, ◌++◌, ◌∷◌, ℕ, List, [], take, drop, sym, ap, ◌∙◌, append-nil, append_assoc}
use Rattle.std.proofs.lemmas.Grind.{flat_map-append}
use Rattle.std.proofs.lemmas.List.{take-append-drop}
use Rattle.oim_resolve.specs.FactParts.{FactParts as Fact}
use Rattle.oim_rows.specs.Streams.{facts_of_rows}
use Rattle.oim_decode.specs.state.RowEnds.{stretches}
use Rattle.oim_decode.proofs.RowCounts.{facts_push}

-- One more block, and the facts after it.
pub block_more : (blocks blocks' : List (List Fact)) (all block facts rest : List Fact) → facts_of_rows blocks ++ facts ≡ all → blocks' ≡ blocks ++ block ∷ [] → facts ≡ block ++ rest
    → facts_of_rows blocks' ++ rest ≡ all
block_more blocks blocks' all block facts rest so more split =
    ap (λ t. facts_of_rows t ++ rest) more ∙ ap (λ t. t ++ rest) (facts_push blocks block) ∙ append_assoc (facts_of_rows blocks) block rest
    ∙ ap (λ t. facts_of_rows blocks ++ t) (sym split) ∙ so

pub block_taken : (n : ℕ) (facts block rest : List Fact) → block ≡ take n facts → rest ≡ drop n facts → facts ≡ block ++ rest
block_taken n facts block rest front back = sym (take-append-drop n facts) ∙ ap (λ t. t ++ drop n facts) (sym front) ∙ ap (λ t. block ++ t) (sym back)

-- The facts of stretches, one after another.
pub stretch_more : (done done' facts all : List Fact) (left next : List (List (List Fact))) (rows : List (List Fact)) → done ++ facts_of_rows (stretches left) ≡ all → left ≡ rows ∷ next
    → facts ≡ facts_of_rows rows → done' ≡ done ++ facts → done' ++ facts_of_rows (stretches next) ≡ all
stretch_more done done' facts all left next rows so first are more =
    ap (λ t. t ++ facts_of_rows (stretches next)) (more ∙ ap (λ t. done ++ t) are) ∙ append_assoc done (facts_of_rows rows) (facts_of_rows (stretches next))
    ∙ ap (λ t. done ++ t) (sym (flat_map-append (λ (row : List Fact). row) rows (stretches next)))
    ∙ ap (λ t. done ++ facts_of_rows (stretches t)) (sym first) ∙ so

pub no_stretch : (done all : List Fact) (left : List (List (List Fact))) → done ++ facts_of_rows (stretches left) ≡ all → left ≡ [] → done ≡ all
no_stretch done all left so none = sym (append-nil done) ∙ ap (λ t. done ++ facts_of_rows (stretches t)) (sym none) ∙ so

-- Those of all stretches, and of the rows after them.
pub all_stretches : (rows last : List (List Fact)) (full : List (List (List Fact))) (some all facts : List Fact) → rows ≡ stretches full ++ last → some ≡ facts_of_rows (stretches full)
    → facts ≡ facts_of_rows last → all ≡ some ++ facts → all ≡ facts_of_rows rows
all_stretches rows last full some all facts is front back more =
    more ∙ ap (λ t. t ++ facts) front ∙ ap (λ t. facts_of_rows (stretches full) ++ t) back ∙ sym (flat_map-append (λ (row : List Fact). row) (stretches full) last) ∙ ap facts_of_rows (sym is)

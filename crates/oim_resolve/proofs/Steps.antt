-- The sources of a cell, searched step by step.
use Rattle.std.proofs.Common.{◌≡◌, ℕ, List, ◌∷◌, Option, codes, sym, ap, ◌∙◌}
use Rattle.std.specs.Option.{option_or}
use Rattle.oim_report.specs.declared.kind.Kind.{Kind}
use Rattle.oim_resolve.specs.declared.fact.CellFault.{CellFault}
use Rattle.oim_resolve.specs.Cell.{Cell, column}
use Rattle.oim_resolve.specs.Facts.{concept_faults, concept_kind}
use Rattle.oim_resolve.specs.Written.{levels, names}
use Rattle.oim_resolve.specs.Origins.{Origin, OwnCell, Dimension, dimension_sources, group_sources, origin_in, origin_of, other_sources, own_faults, rest_sources}
use Rattle.oim_resolve.specs.Writers.{first_answer}
use Rattle.oim_resolve.proofs.FirstAnswers.{first_answer-append}

module _ (f : CellFault) (c : Cell) where
  abbrev of_own : Option Origin
  of_own = origin_in f (own_faults c, OwnCell)

  abbrev of_groups : Option Origin
  of_groups = first_answer (origin_in f) (group_sources c (column c).from)

  abbrev of_concept : Option Origin
  of_concept = origin_in f (concept_faults c, Dimension (codes "concept"))

  abbrev of_rest : Kind → Option Origin
  of_rest k = first_answer (origin_in f) (rest_sources c k)

  in_steps : option_or of_own (option_or of_groups (option_or of_concept (of_rest (concept_kind c)))) ≡ origin_of c f
  in_steps =
      ap (option_or of_own) (sym (first_answer-append (origin_in f) (group_sources c (column c).from) ((concept_faults c, Dimension (codes "concept")) ∷ rest_sources c (concept_kind c))))

  -- The origin, by what each step finds.
  pub at_step : (k : Kind) (a b d e : Option Origin) → k ≡ concept_kind c → a ≡ of_own → b ≡ of_groups → d ≡ of_concept → e ≡ of_rest k
      → option_or a (option_or b (option_or d e)) ≡ origin_of c f
  at_step k a b d e same ha hb hd he = let whole = in_steps in cc whole

  -- The last step, by what is found of an equal cell among equal names, and then.
  pub at_rest : (k : Kind) (d : Cell) (ns : List (List ℕ)) (a b : Option Origin) → d ≡ c → ns ≡ names (levels c)
      → a ≡ first_answer (origin_in f) (dimension_sources d k ns) → b ≡ first_answer (origin_in f) (other_sources d k) → option_or a b ≡ of_rest k
  at_rest k d ns a b cell same ha hb =
      let xs = dimension_sources c k (names (levels c)) in
      ap (λ o. option_or o b)
      (ha ∙ ap (λ e. first_answer (origin_in f) (dimension_sources e k ns)) cell ∙ ap (λ ms. first_answer (origin_in f) (dimension_sources c k ms)) same)
      ∙ ap (option_or (first_answer (origin_in f) xs)) (hb ∙ ap (λ e. first_answer (origin_in f) (other_sources e k)) cell)
      ∙ sym (first_answer-append (origin_in f) xs (other_sources c k))

-- The facts in the answer for one row.
use Rattle.std.specs.Prelude.{◌≡◌, List, [], ◌∷◌, ◌++◌, ℕ, Result, Ok, Err}
use Rattle.oim_resolve.specs.FactParts.{FactParts as Fact}
use Rattle.oim_rows.specs.Streams.{OrNoMemory}
use Rattle.oim_rows.specs.declared.fault.TableFault.{TableFault}

-- The facts of an answer; a fault has none.
abbrev pub facts_of_answer : Result (List Fact) TableFault → List Fact
facts_of_answer (Ok facts) = facts
facts_of_answer (Err e) = []

-- What the answer for a row gives was added; or nothing was, with the row's fault or because memory
-- ran out.
abbrev pub AddsGiven : {A : Type 0} → ℕ → Result (List Fact) TableFault → List A → List A → List A → Result (Unit {0}) TableFault → Type 0
AddsGiven table answer given before after (Ok u) = (answer ≡ Ok (facts_of_answer answer)) × (after ≡ before ++ given)
AddsGiven table answer given before after (Err e) = (after ≡ before) × OrNoMemory table (Err e) answer

-- The facts of a row were added to a list of facts.
abbrev pub AddsFacts : ℕ → Result (List Fact) TableFault → List Fact → List Fact → Result (Unit {0}) TableFault → Type 0
AddsFacts table answer before after result = AddsGiven table answer (facts_of_answer answer) before after result

-- The facts of a row were added to a list of rows.
abbrev pub AddsRowFacts : ℕ → Result (List Fact) TableFault → List (List Fact) → List (List Fact) → Result (Unit {0}) TableFault → Type 0
AddsRowFacts table answer before after result = AddsGiven table answer (facts_of_answer answer ∷ []) before after result

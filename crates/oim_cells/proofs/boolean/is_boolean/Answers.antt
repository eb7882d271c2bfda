use Rattle.std.proofs.Common.{refl}
use Rattle.oim_cells.specs.Boolean.{true_word, false_word, one, zero}
use Rattle.oim_cells.proofs.boolean.is_boolean.Goals as goal

pub returns-in-true-clause-means : goal.returns-in-true-clause-means
returns-in-true-clause-means c = rw c.in-true.is-true (λ _. true_word, λ _. refl)

pub returns-in-true-2-clause-means : goal.returns-in-true-2-clause-means
returns-in-true-2-clause-means c = rw c.in-true.is-false (λ _. false_word, λ _. refl)

pub returns-in-true-3-clause-means : goal.returns-in-true-3-clause-means
returns-in-true-3-clause-means c = rw c.in-true.is-text (λ _. one, λ _. refl)

pub returns-in-true-4-clause-means : goal.returns-in-true-4-clause-means
returns-in-true-4-clause-means c = rw c.in-true.is-text-2 (λ _. zero, λ _. refl)

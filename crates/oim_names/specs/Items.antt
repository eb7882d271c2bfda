-- Iteration over a list.
use Rattle.std.specs.Prelude.{◌≡◌, ◌^◌, ◌<◌, List, length}
use Rattle.std.specs.Iterator.Runs.{EveryRun, ItemsMapTo}
use Rattle.std.specs.Slice.Iter.{iter_rest, iter_steps}
use Rattle.std.specs.declared.slice.Iter.{Iter}

-- An iterator lends these items, in order.
abbrev pub GoesOver : {A : Type 0} → List A → Iter A → Type 0
GoesOver {A} items it =
    (iter_rest it ≡ items) × (length (iter_rest it) < 2 ^ 64) × EveryRun (iter_steps {A = A}) (λ p. ItemsMapTo p (λ x. x.now) (iter_rest p.from))

-- What contracts see of references: what they point to.
use Rattle.std.specs.Prelude.{List, map}
use Rattle.std.specs.Borrow.{Bor}

abbrev pub held : {X : Type 0} → List (Bor X) → List X
held xs = map (λ x. x.now) xs

use Rattle.std.specs.Prelude.{◌≡◌, [], ◌∷◌, ◌++◌}
use Rattle.std.proofs.Common.{ap, ◌∙◌}
use Rattle.oim_ring.specs.Items.{blocks_only}
use Rattle.oim_ring.specs.declared.item.Item.TheVariants as items
use Rattle.oim_ring.proofs.TakenWhole.{ended}
use Rattle.conversion_tests.proofs.tests_rings.settled.Goals as goal

pub settle-drained-requires-clause-ended : goal.settle-drained-requires-clause-ended
settle-drained-requires-clause-ended c =
    let e = c.in-Some-Ending in
    let more : c.take.new.self.taken ≡ c.args.drain.taken ++ items.Ending e.ending ∷ [] = e.ensures.some ∙ ap (λ x. c.args.drain.taken ++ x ∷ []) e.field-0-is in
    ap blocks_only (c.finds_nothing.ensures.same c.if-finds_nothing.true ∙ more) ∙ ended c.args.drain.taken e.ending

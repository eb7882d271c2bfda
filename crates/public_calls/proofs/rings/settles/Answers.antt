use Rattle.std.specs.Prelude.{◌≡◌, [], ◌∷◌, ◌++◌}
use Rattle.std.proofs.Common.{ap, ◌∙◌}
use Rattle.oim_ring.specs.Items.{blocks_only}
use Rattle.oim_ring.specs.declared.item.Item.TheVariants as items
use Rattle.oim_ring.proofs.TakenWhole.{ended}
use Rattle.public_calls.proofs.rings.settles.Goals as goal

-- The item taken last is the ending.
pub settle-requires-clause-ended : goal.settle-requires-clause-ended
settle-requires-clause-ended c =
    let e = c.in-Some-Ending in
    let more : c.take.new.self.taken ≡ c.args.drain.taken ++ items.Ending e.field-0-0 ∷ [] = e.ensures.some ∙ ap (λ x. c.args.drain.taken ++ x ∷ []) e.field-0-is in
    ap blocks_only more ∙ ended c.args.drain.taken e.field-0-0

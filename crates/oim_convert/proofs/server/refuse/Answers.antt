use Rattle.std.specs.Prelude.{◌≡◌, ◌∷◌, ◌++◌, [], true}
use Rattle.std.proofs.Common.{refl, sym, subst}
use Rattle.oim_ring.specs.Ends.{ClosedView}
use Rattle.oim_ring.specs.Items.{blocks_only}
use Rattle.oim_ring.specs.declared.item.Item.TheVariants as items
use Rattle.oim_convert.specs.Histories.{IsEndingOf, IsOfTable}
use Rattle.oim_convert.proofs.SentFacts.{if_some_both}
use Rattle.oim_convert.proofs.TableEndings.{sent_own}
use Rattle.oim_convert.proofs.server.refuse.Goals as goal

pub returns-clause-own : goal.returns-clause-own
returns-clause-own g c =
    let table = c.args.task.table in let sent = c.args.task.feed.sent in let e = c.refused.result in
    let own : IsEndingOf table e = subst (IsEndingOf table) (sym c.refused.ensures) refl in
    let Own : ClosedView → Type 0 = λ closed. IsOfTable table closed.sent in
    if_some_both c.close_waiting.result (λ closed. closed.sent ≡ sent ++ items.Ending e ∷ []) (λ _. blocks_only sent ≡ true) Own
    (λ closed is only. sent_own table sent closed.sent e own only is) c.close_waiting.ensures.sent c.close_waiting.ensures.blocks
